use Rattle.std.proofs.Common.{rules, ◌≡◌, ◌≢◌, ◌∙◌, arith, inr, ap, sym, subst, ℕ, List, [], map, length, Err, Result, Ok, option_map, Option}
use Rattle.std.specs.Prelude.{is_some, nat_le, unwrap_or, IsErrAnd, IsErrOf, IsTrue, OnErr, All}
use Rattle.std.proofs.lemmas.List.{length-map}
use Rattle.oc_host.specs.Disk.{Looks}
use Rattle.oc_layout.specs.declared.cells.Space.TheVariants.{System}
use Rattle.oc_model.specs.declared.value.Rec.{Rec}
use Rattle.oc_model.specs.Lists.{IsOneOf}
use Rattle.oc_model.specs.Maps.{at}
use Rattle.oc_model.specs.SchemaRules.{keeps_rules}
use Rattle.oc_model.specs.Stores.{class_of, Store}
use Rattle.oc_room.specs.Rooms.{lacking, placed, unplaced}
use Rattle.oc_chunks.specs.Chunks.{joined}
use Rattle.oc_index.specs.Ranges.{is_numbered}
use Rattle.oc_slots.specs.declared.slot.Side.TheVariants.{Session}
use Rattle.oc_slots.specs.declared.slot.SlotChange.{SlotChange}
use Rattle.oc_slots.specs.declared.slot.SlotId.{SlotId}
use Rattle.oc_slots.specs.Maps.{changed, has_after, Same}
use Rattle.oc_slots.specs.Slots.{lengths_of}
use Rattle.oc_slots.specs.Stores.{committed, session, session_place, AreChanges, IsUnchanged, Slots}
use Rattle.oc_slots.specs.Stores as slots
use Rattle.oc_lists.specs.declared.record.RecChange.{RecChange}
use Rattle.oc_lists.specs.Changing.{store_changed, there_after, AreOld, AreRecChanges}
use Rattle.oc_lists.specs.Keeping.{AreListsOf}
use Rattle.oc_lists.specs.Lists.{class_in, lists_then, HasLists}
use Rattle.oc_lists.proofs.Changed.{at_records, keeps_changed}
use Rattle.oc_layout.specs.declared.cells.Space.{Space as SpaceOf}
use Rattle.oc_slots.specs.declared.fault.SpaceFault.TheVariants as space_fault
use Rattle.oc_store.specs.declared.fault.ChangeFault.{ChangeFault}
use Rattle.oc_store.specs.declared.fault.ChangeFault.TheVariants as change_fault
use Rattle.oc_store.specs.declared.fault.ReadFault.{ReadFault}
use Rattle.oc_store.specs.declared.fault.ReadFault.TheVariants as read_fault
use Rattle.oc_store.specs.Faults.{change_fault_of}
use Rattle.oc_store.specs.Changed.{record_lens, slot_change}
use Rattle.oc_store.specs.Lists.{system_slot}
use Rattle.oc_store.specs.Filed.{class_on, Agrees, FiledStore, IsFiled, Shows}
use Rattle.oc_store.specs.Last.{are_small}
use Rattle.oc_store.specs.Outlines.{IsOutline}
use Rattle.oc_store.specs.Sides.{Heading}
use Rattle.oc_store.specs.Stands.{object_slot, Spells}
use Rattle.oc_store.proofs.ChangedSlots.{lens_are, may_change, no_system}
use Rattle.oc_store.proofs.ChangedStore.{before_still, changed_filed, changed_shows, looks_still, read_agrees, read_committed, read_filed, read_shows, read_spelled, read_untouched, same_then, unchanged_agrees, unchanged_filed, unchanged_shows}
use Rattle.oc_store.proofs.Classes.{class_is}
use Rattle.oc_store.proofs.Fetched.{read_as}
use Rattle.oc_store.proofs.Fresh.{found_some, fresh_store, still_fresh}
use Rattle.oc_store.proofs.OneStore.{same_maps}
use Rattle.oc_store.proofs.RolledBack.{parted_fresh, rolled_agrees, rolled_filed, rolled_shows, same_committed}
use Rattle.oc_store.proofs.store.Store.change.Goals as goal

on_err : {T E : Type 0} (r : Result T E) (P : Type 0) → P → OnErr r P
on_err (Ok x) P p = tt
on_err (Err e) P p = p

changed_damaged : (f : ReadFault) (space : SpaceOf) (n : ℕ) → change_fault_of f ≡ change_fault.Damaged space n → f ≡ read_fault.Damaged space n
changed_damaged read_fault.Host space n e = cc
changed_damaged read_fault.Memory space n e = cc
changed_damaged (read_fault.Damaged s k) space n e = let a : s ≡ space = cc in let b : k ≡ n = cc in λ i. read_fault.Damaged (a i) (b i)

given_damaged : {T : Type 0} (r : Result T ChangeFault) (f : ReadFault) (space : SpaceOf) (n : ℕ) → IsErrAnd r (λ e. e ≡ change_fault_of f) → IsErrOf r (change_fault.Damaged space n) → f ≡ read_fault.Damaged space n
given_damaged (Ok x) f space n given is = cc
given_damaged (Err e) f space n given is = let same : e ≡ change_fault.Damaged space n = cc in changed_damaged f space n (sym given ∙ same)

pub fetch_olds-requires-clause-listed : goal.fetch_olds-requires-clause-listed
fetch_olds-requires-clause-listed g c n =
    let l = c.self.inside.indexes in
    (c.self.invariant.0.session).just.listed n ∙ sym (found_some (is_numbered n) (joined (l.extents).chunks)) ∙ ap (λ e. is_some (class_in (joined e.chunks) n)) (sym c.extents-extents.ensures)

pub invariant_of-self : goal.invariant_of-self
invariant_of-self g c =
    let i = c.self.inside in
    let then : Heading = record { next = i.next; schema = i.schema } in
    let now : Heading = record { next = i.session.next; schema = unwrap_or i.session.schema i.schema } in
    let old : FiledStore = record { slots = i.slots; committed = then; session = now; lists = i.indexes; touched = i.session.touched } in
    let read = c.fetch_olds.new.slots in
    let same = c.fetch_olds.ensures.same in
    (read_filed old read same i.session.classes.entries c.self.invariant.0, read_untouched old read same c.self.invariant.1)

pub invariant_of-self-in_err-spelled : goal.invariant_of-self-in_err-spelled
invariant_of-self-in_err-spelled g c =
    let i = c.self.inside in
    let then : Heading = record { next = i.next; schema = i.schema } in
    let now : Heading = record { next = i.session.next; schema = unwrap_or i.session.schema i.schema } in
    let old : FiledStore = record { slots = i.slots; committed = then; session = now; lists = i.indexes; touched = i.session.touched } in
    let read = c.fetch_olds.new.slots in
    let same = c.fetch_olds.ensures.same in
    (read_filed old read same i.session.classes.entries c.self.invariant.0, read_untouched old read same c.self.invariant.1)

pub returns-in_err-olds-clause-damaged : goal.returns-in_err-olds-clause-damaged
returns-in_err-olds-clause-damaged g c space n is =
    let i = c.self.inside in
    let then : Heading = record { next = i.next; schema = i.schema } in
    let now : Heading = record { next = i.session.next; schema = unwrap_or i.session.schema i.schema } in
    let old : FiledStore = record { slots = i.slots; committed = then; session = now; lists = i.indexes; touched = i.session.touched } in
    let read = c.fetch_olds.new.slots in
    let same = c.fetch_olds.ensures.same in
    let disk = g.H.Host.disk c.args.host.now in
    let looked = g.H.Host.disk c.fetch_olds.new.host in
    let cs = c.args.changes.items in
    let fault = given_damaged c.from_residual.result c.in_err-olds.field-0.0 space n c.from_residual.ensures.1 is in
    let r = c.fetch_olds.ensures.damaged space n (c.in_err-olds.was ∙ ap Err fault) in (
      r.0,
      subst (λ q. IsOneOf n (map (λ (x : RecChange). x.number) q)) c.deref.ensures.value r.1,
      λ told found read_so.
          r.2 told found
          (read_as _ _ (sym (c.schema_on-schema.ensures ∙ ap (λ (x : FiledStore). (x.session).schema) c.self.view_is)) _ _ (sym (ap (λ e. class_in (joined e.chunks) n) c.extents-extents.ensures ∙ ap (λ (x : FiledStore). class_on Session x n) c.self.view_is)) _ _ (ap (λ (x : FiledStore). session x.slots disk (object_slot n)) (sym c.self.view_is)) found read_so),
    )

pub returns-in_err-olds-clause-still : goal.returns-in_err-olds-clause-still
returns-in_err-olds-clause-still g c =
    let i = c.self.inside in
    let then : Heading = record { next = i.next; schema = i.schema } in
    let now : Heading = record { next = i.session.next; schema = unwrap_or i.session.schema i.schema } in
    let old : FiledStore = record { slots = i.slots; committed = then; session = now; lists = i.indexes; touched = i.session.touched } in
    let read = c.fetch_olds.new.slots in
    let same = c.fetch_olds.ensures.same in
    let disk = g.H.Host.disk c.args.host.now in
    let looked = g.H.Host.disk c.fetch_olds.new.host in
    on_err c.from_residual.result _ (λ told. inr (λ k s shows. read_shows old read same disk looked (c.fetch_olds.ensures.looks told).bytes k s (subst (λ x. Shows x disk k s) (sym c.self.view_is) shows)))

pub returns-in_err-olds-clause-any_moment : goal.returns-in_err-olds-clause-any_moment
returns-in_err-olds-clause-any_moment g c told k s shows =
    let i = c.self.inside in
    let then : Heading = record { next = i.next; schema = i.schema } in
    let now : Heading = record { next = i.session.next; schema = unwrap_or i.session.schema i.schema } in
    let old : FiledStore = record { slots = i.slots; committed = then; session = now; lists = i.indexes; touched = i.session.touched } in
    let read = c.fetch_olds.new.slots in
    let same = c.fetch_olds.ensures.same in
    let disk = g.H.Host.disk c.args.host.now in
    let looked = g.H.Host.disk c.fetch_olds.new.host in
    let was : Shows old disk k s = subst (λ x. Shows x disk k s) (sym c.self.view_is) shows in
    looks_still (i.slots).header (i.slots).pages disk looked k was.spelled (c.fetch_olds.ensures.looks told)

pub returns-in_err-spelled-clause-any_moment : goal.returns-in_err-spelled-clause-any_moment
returns-in_err-spelled-clause-any_moment g c told k s shows =
    let i = c.self.inside in
    let then : Heading = record { next = i.next; schema = i.schema } in
    let now : Heading = record { next = i.session.next; schema = unwrap_or i.session.schema i.schema } in
    let old : FiledStore = record { slots = i.slots; committed = then; session = now; lists = i.indexes; touched = i.session.touched } in
    let read = c.fetch_olds.new.slots in
    let same = c.fetch_olds.ensures.same in
    let disk = g.H.Host.disk c.args.host.now in
    let looked = g.H.Host.disk c.fetch_olds.new.host in
    let was : Shows old disk k s = subst (λ x. Shows x disk k s) (sym c.self.view_is) shows in
    looks_still (i.slots).header (i.slots).pages disk looked k was.spelled (c.fetch_olds.ensures.looks told)

pub change-requires-clause-changes : goal.change-requires-clause-changes
change-requires-clause-changes g c =
    let cs = c.args.changes.items in
    let v = c.args.self.now in
    let spelled : c.in_ok-spelled.spelled.items ≡ map slot_change cs = c.in_ok-spelled.ensures ∙ ap (map slot_change) c.deref-2.ensures.value in
    subst AreChanges (sym spelled) (may_change (v.session).schema (class_on Session v) (v.session).next c.args.next cs c.requires.changes)

pub invariant_of-self-in-Err-Full : goal.invariant_of-self-in-Err-Full
invariant_of-self-in-Err-Full g c =
    let i = c.self.inside in
    let then : Heading = record { next = i.next; schema = i.schema } in
    let now : Heading = record { next = i.session.next; schema = unwrap_or i.session.schema i.schema } in
    let old : FiledStore = record { slots = i.slots; committed = then; session = now; lists = i.indexes; touched = i.session.touched } in
    let read = c.fetch_olds.new.slots in
    let same = c.fetch_olds.ensures.same in
    let u : IsUnchanged read c.change.new.self × (c.change.new.host ≡ c.fetch_olds.new.host) = search rules in
    (unchanged_filed read c.change.new.self u.0 then now i.indexes i.session.classes.entries (read_filed old read same i.session.classes.entries c.self.invariant.0), still_fresh (record old { slots = read }) c.change.new.self (u.0).objects (u.0).system (read_untouched old read same c.self.invariant.1))

pub returns-in-Err-Full-clause-agrees : goal.returns-in-Err-Full-clause-agrees
returns-in-Err-Full-clause-agrees g c =
    let read = c.fetch_olds.new.slots in
    let u : IsUnchanged read c.change.new.self × (c.change.new.host ≡ c.fetch_olds.new.host) = search rules in
    λ told. (
    let i = c.self.inside in
    let then : Heading = record { next = i.next; schema = i.schema } in
    let now : Heading = record { next = i.session.next; schema = unwrap_or i.session.schema i.schema } in
    let old : FiledStore = record { slots = i.slots; committed = then; session = now; lists = i.indexes; touched = i.session.touched } in
    let read = c.fetch_olds.new.slots in
    let same = c.fetch_olds.ensures.same in
    let disk = g.H.Host.disk c.args.host.now in
    let looked = g.H.Host.disk c.fetch_olds.new.host in
    let was : Agrees old disk = subst (λ x. Agrees x disk) (sym c.self.view_is) (c.requires.agrees told) in
    let agrees : Agrees (record old { slots = read }) looked = read_agrees old read same disk looked (c.fetch_olds.ensures.looks told).bytes was (c.fetch_olds.ensures.agrees told) in
    inr (subst (λ h. Agrees (record old { slots = c.change.new.self }) (g.H.Host.disk h)) (sym u.1) (unchanged_agrees read c.change.new.self u.0 then now i.indexes i.session.touched looked agrees)))

pub returns-in-Err-Full-clause-full : goal.returns-in-Err-Full-clause-full
returns-in-Err-Full-clause-full g c need len limit is =
    let i = c.self.inside in
    let then : Heading = record { next = i.next; schema = i.schema } in
    let now : Heading = record { next = i.session.next; schema = unwrap_or i.session.schema i.schema } in
    let old : FiledStore = record { slots = i.slots; committed = then; session = now; lists = i.indexes; touched = i.session.touched } in
    let read = c.fetch_olds.new.slots in
    let same = c.fetch_olds.ensures.same in
    let cs = c.args.changes.items in
    let v = c.args.self.now in
    let spelled : c.in_ok-spelled.spelled.items ≡ map slot_change cs = c.in_ok-spelled.ensures ∙ ap (map slot_change) c.deref-2.ensures.value in
    let rooms : read.room ≡ (v.slots).room = ap (λ (x : Slots). x.room) same ∙ ap (λ (x : FiledStore). (x.slots).room) c.self.view_is in
    let lens : lengths_of c.in_ok-spelled.spelled.items ≡ record_lens cs = ap lengths_of spelled ∙ lens_are (v.session).schema cs c.requires.changes.storable in
    let err : IsErrOf c.change.result (space_fault.Full need len limit) = search rules in
    let r = c.change.ensures.full need len limit err in
    (r.0 ∙ ap (λ x. x.limit) rooms, sym (λ j. lacking (rooms j).unit (rooms j).limit (unplaced (rooms j)) (lens j)) ∙ r.1)

pub returns-in-Err-Full-clause-still : goal.returns-in-Err-Full-clause-still
returns-in-Err-Full-clause-still g c =
    let read = c.fetch_olds.new.slots in
    let u : IsUnchanged read c.change.new.self × (c.change.new.host ≡ c.fetch_olds.new.host) = search rules in
    λ told. (
    let i = c.self.inside in
    let then : Heading = record { next = i.next; schema = i.schema } in
    let now : Heading = record { next = i.session.next; schema = unwrap_or i.session.schema i.schema } in
    let old : FiledStore = record { slots = i.slots; committed = then; session = now; lists = i.indexes; touched = i.session.touched } in
    let read = c.fetch_olds.new.slots in
    let same = c.fetch_olds.ensures.same in
    let disk = g.H.Host.disk c.args.host.now in
    let looked = g.H.Host.disk c.fetch_olds.new.host in
    inr (λ k s shows.
    (let was : Shows old disk k s = subst (λ x. Shows x disk k s) (sym c.self.view_is) shows in
    subst (λ h. Shows (record old { slots = c.change.new.self }) (g.H.Host.disk h) k s) (sym u.1) (unchanged_shows read c.change.new.self u.0 then now i.indexes i.session.touched looked k s (read_shows old read same disk looked (c.fetch_olds.ensures.looks told).bytes k s was)))))

pub returns-in-Err-Full-clause-any_moment : goal.returns-in-Err-Full-clause-any_moment
returns-in-Err-Full-clause-any_moment g c told k s shows =
    let i = c.self.inside in
    let then : Heading = record { next = i.next; schema = i.schema } in
    let now : Heading = record { next = i.session.next; schema = unwrap_or i.session.schema i.schema } in
    let old : FiledStore = record { slots = i.slots; committed = then; session = now; lists = i.indexes; touched = i.session.touched } in
    let read = c.fetch_olds.new.slots in
    let same = c.fetch_olds.ensures.same in
    let disk = g.H.Host.disk c.args.host.now in
    let looked = g.H.Host.disk c.fetch_olds.new.host in
    let was : Shows old disk k s = subst (λ x. Shows x disk k s) (sym c.self.view_is) shows in
    before_still read.header read.pages disk looked k (read_spelled old read same disk k was.spelled) (c.fetch_olds.ensures.looks told) (g.H.Host.disk c.change.new.host) (c.change.ensures.any_moment told)

pub invariant_of-self-in-Err-Memory : goal.invariant_of-self-in-Err-Memory
invariant_of-self-in-Err-Memory g c =
    let i = c.self.inside in
    let then : Heading = record { next = i.next; schema = i.schema } in
    let now : Heading = record { next = i.session.next; schema = unwrap_or i.session.schema i.schema } in
    let old : FiledStore = record { slots = i.slots; committed = then; session = now; lists = i.indexes; touched = i.session.touched } in
    let read = c.fetch_olds.new.slots in
    let same = c.fetch_olds.ensures.same in
    let u : IsUnchanged read c.change.new.self × (c.change.new.host ≡ c.fetch_olds.new.host) = search rules in
    (unchanged_filed read c.change.new.self u.0 then now i.indexes i.session.classes.entries (read_filed old read same i.session.classes.entries c.self.invariant.0), still_fresh (record old { slots = read }) c.change.new.self (u.0).objects (u.0).system (read_untouched old read same c.self.invariant.1))

pub returns-in-Err-Memory-clause-agrees : goal.returns-in-Err-Memory-clause-agrees
returns-in-Err-Memory-clause-agrees g c =
    let read = c.fetch_olds.new.slots in
    let u : IsUnchanged read c.change.new.self × (c.change.new.host ≡ c.fetch_olds.new.host) = search rules in
    λ told. (
    let i = c.self.inside in
    let then : Heading = record { next = i.next; schema = i.schema } in
    let now : Heading = record { next = i.session.next; schema = unwrap_or i.session.schema i.schema } in
    let old : FiledStore = record { slots = i.slots; committed = then; session = now; lists = i.indexes; touched = i.session.touched } in
    let read = c.fetch_olds.new.slots in
    let same = c.fetch_olds.ensures.same in
    let disk = g.H.Host.disk c.args.host.now in
    let looked = g.H.Host.disk c.fetch_olds.new.host in
    let was : Agrees old disk = subst (λ x. Agrees x disk) (sym c.self.view_is) (c.requires.agrees told) in
    let agrees : Agrees (record old { slots = read }) looked = read_agrees old read same disk looked (c.fetch_olds.ensures.looks told).bytes was (c.fetch_olds.ensures.agrees told) in
    inr (subst (λ h. Agrees (record old { slots = c.change.new.self }) (g.H.Host.disk h)) (sym u.1) (unchanged_agrees read c.change.new.self u.0 then now i.indexes i.session.touched looked agrees)))

pub returns-in-Err-Memory-clause-any_moment : goal.returns-in-Err-Memory-clause-any_moment
returns-in-Err-Memory-clause-any_moment g c told k s shows =
    let i = c.self.inside in
    let then : Heading = record { next = i.next; schema = i.schema } in
    let now : Heading = record { next = i.session.next; schema = unwrap_or i.session.schema i.schema } in
    let old : FiledStore = record { slots = i.slots; committed = then; session = now; lists = i.indexes; touched = i.session.touched } in
    let read = c.fetch_olds.new.slots in
    let same = c.fetch_olds.ensures.same in
    let disk = g.H.Host.disk c.args.host.now in
    let looked = g.H.Host.disk c.fetch_olds.new.host in
    let was : Shows old disk k s = subst (λ x. Shows x disk k s) (sym c.self.view_is) shows in
    before_still read.header read.pages disk looked k (read_spelled old read same disk k was.spelled) (c.fetch_olds.ensures.looks told) (g.H.Host.disk c.change.new.host) (c.change.ensures.any_moment told)

pub invariant_of-self-in-Err-Host : goal.invariant_of-self-in-Err-Host
invariant_of-self-in-Err-Host g c =
    let i = c.self.inside in
    let then : Heading = record { next = i.next; schema = i.schema } in
    let now : Heading = record { next = i.session.next; schema = unwrap_or i.session.schema i.schema } in
    let old : FiledStore = record { slots = i.slots; committed = then; session = now; lists = i.indexes; touched = i.session.touched } in
    let read = c.fetch_olds.new.slots in
    let same = c.fetch_olds.ensures.same in
    let t = c.give_up.new.slots in
    let e = c.give_up.ensures in
    let after : Heading = record { next = c.give_up.new.session.next; schema = unwrap_or c.give_up.new.session.schema i.schema } in
    let back : after ≡ then = λ j. record { next = e.next j; schema = unwrap_or (e.schema j) i.schema } in
    let pages : t.pages ≡ (i.slots).pages = e.pages ∙ c.change.ensures.pages ∙ ap (λ (x : Slots). x.pages) same in
    let lists : c.give_up.new.indexes ≡ lists_then i.indexes = e.lists in
    let rolled = rolled_filed i.slots t then now i.indexes i.session.classes.entries c.self.invariant.0 pages e.objects e.system in (
      subst (IsFiled t then after c.give_up.new.indexes) (sym e.classes)
          (subst (λ l. IsFiled t then after l []) (sym lists) (subst (λ h. IsFiled t then h (lists_then i.indexes) []) (sym back) rolled)),
      λ is. parted_fresh t then i.indexes c.give_up.new.indexes c.give_up.new.session.next c.give_up.new.session.schema c.give_up.new.session.touched e.next e.schema lists e.touched e.objects e.system c.self.invariant.0.written,
    )

pub returns-in-Err-Host-clause-any_moment : goal.returns-in-Err-Host-clause-any_moment
returns-in-Err-Host-clause-any_moment g c told k s shows =
    let i = c.self.inside in
    let then : Heading = record { next = i.next; schema = i.schema } in
    let now : Heading = record { next = i.session.next; schema = unwrap_or i.session.schema i.schema } in
    let old : FiledStore = record { slots = i.slots; committed = then; session = now; lists = i.indexes; touched = i.session.touched } in
    let read = c.fetch_olds.new.slots in
    let same = c.fetch_olds.ensures.same in
    let disk = g.H.Host.disk c.args.host.now in
    let looked = g.H.Host.disk c.fetch_olds.new.host in
    let was : Shows old disk k s = subst (λ x. Shows x disk k s) (sym c.self.view_is) shows in
    before_still read.header read.pages disk looked k (read_spelled old read same disk k was.spelled) (c.fetch_olds.ensures.looks told) (g.H.Host.disk c.change.new.host) (c.change.ensures.any_moment told)

pub relist-requires-clause-lengths : goal.relist-requires-clause-lengths
relist-requires-clause-lengths g c =
    let cs = c.args.changes.items in
    let olds = c.in_ok-olds.olds.items in
    let es = joined c.extents-extents.result.now.chunks in
    let a = ap length c.deref-3.ensures.value in
    let b = length-map olds (option_map (λ (r : Rec). r.class)) in
    let d = ap length c.in_ok-olds.ensures.classes in
    let e = length-map c.deref.result.now (λ (x : RecChange). class_in es x.number) in
    let f = ap length c.deref.ensures.value in
    let h = ap length c.deref-4.ensures.value in
    omega (arith, a, b, d, e, f, h)

pub invariant_of-self-in-Ok-relist : goal.invariant_of-self-in-Ok-relist
invariant_of-self-in-Ok-relist g c =
    let i = c.self.inside in
    let then : Heading = record { next = i.next; schema = i.schema } in
    let now : Heading = record { next = i.session.next; schema = unwrap_or i.session.schema i.schema } in
    let old : FiledStore = record { slots = i.slots; committed = then; session = now; lists = i.indexes; touched = i.session.touched } in
    let read = c.fetch_olds.new.slots in
    let same = c.fetch_olds.ensures.same in
    let cs = c.args.changes.items in
    let v = c.args.self.now in
    let spelled : c.in_ok-spelled.spelled.items ≡ map slot_change cs = c.in_ok-spelled.ensures ∙ ap (map slot_change) c.deref-2.ensures.value in
    let may : AreRecChanges now.schema (class_on Session old) now.next c.args.next cs = subst (λ (x : FiledStore). AreRecChanges (x.session).schema (class_on Session x) (x.session).next c.args.next cs) (sym c.self.view_is) c.requires.changes in
    let l = i.indexes in
    let k = c.relist.new.indexes in
    let filed = read_filed old read same i.session.classes.entries c.self.invariant.0 in
    let schema : c.schema_on-schema.result.now ≡ now.schema = c.schema_on-schema.ensures in
    let side = filed.session in (
      changed_filed read c.change.new.self then now l k i.session.classes.entries c.relist.new.classes.entries cs c.args.next filed may c.change.ensures.pages
          (c.in-Ok.ensures.untouched System (subst (λ q. All (λ (x : SlotChange). (x.id).space ≢ System) q) (sym spelled) (no_system cs)))
          (λ id. c.in-Ok.ensures.there id ∙ ap (λ q. has_after q id (is_some (session_place read id))) spelled)
          c.relist.ensures.extents_marked c.relist.ensures.marked
          (λ n. c.in-Ok-relist.ensures.there n ∙ ap (λ q. there_after q n (is_some (class_in (joined (l.extents).chunks) n))) c.deref-4.ensures.value)
          (subst (λ q. AreListsOf q k) schema (c.in-Ok-relist.ensures.lists (subst (λ q. AreListsOf q l) (sym schema) side.lists)))
          (c.in-Ok-relist.ensures.kept filed.kept)
          (c.in-Ok-relist.ensures.numbered (λ n. is_some (session_place read (system_slot n))) side.numbered)
          (c.in-Ok-relist.ensures.numbered (λ n. nat_le n 2147483646) (record { from_2 = (side.numbered).from_2; once = (side.numbered).once; there = side.small })).there
          (c.in-Ok-relist.ensures.noted (joined (l.extents).marked) filed.noted),
      λ is. absurd cc,
    )

pub returns-in-Ok-relist-clause-shows : goal.returns-in-Ok-relist-clause-shows
returns-in-Ok-relist-clause-shows g c told k s shows =
    let i = c.self.inside in
    let then : Heading = record { next = i.next; schema = i.schema } in
    let now : Heading = record { next = i.session.next; schema = unwrap_or i.session.schema i.schema } in
    let old : FiledStore = record { slots = i.slots; committed = then; session = now; lists = i.indexes; touched = i.session.touched } in
    let read = c.fetch_olds.new.slots in
    let same = c.fetch_olds.ensures.same in
    let disk = g.H.Host.disk c.args.host.now in
    let looked = g.H.Host.disk c.fetch_olds.new.host in
    let cs = c.args.changes.items in
    let v = c.args.self.now in
    let spelled : c.in_ok-spelled.spelled.items ≡ map slot_change cs = c.in_ok-spelled.ensures ∙ ap (map slot_change) c.deref-2.ensures.value in
    let may : AreRecChanges now.schema (class_on Session old) now.next c.args.next cs = subst (λ (x : FiledStore). AreRecChanges (x.session).schema (class_on Session x) (x.session).next c.args.next cs) (sym c.self.view_is) c.requires.changes in
    let was : Shows old disk k s = subst (λ x. Shows x disk k s) (sym c.self.view_is) shows in
    let before = read_shows old read same disk looked (c.fetch_olds.ensures.looks told).bytes k s was in
    let ours = was.session in
    let schema : now.schema ≡ s.schema = (ours.heading).schema in
    let classes : class_on Session old ≡ class_of s = λ j n. class_is s (joined ((i.indexes).extents).chunks) n (ours.lists).extents j in
    let here : AreRecChanges s.schema (class_of s) s.next c.args.next cs =
    subst (λ q. AreRecChanges q (class_of s) s.next c.args.next cs) schema (subst (λ q. AreRecChanges now.schema q s.next c.args.next cs) classes (subst (λ q. AreRecChanges now.schema (class_on Session old) q c.args.next cs) (ours.heading).next may)) in
    let olds : AreOld s.records c.deref-4.result.now c.deref-3.result.now =
    c.deref-3.ensures.value ∙ c.in_ok-olds.ensures.olds told s.records ours.objects ∙ ap (map (λ (x : RecChange). at s.records x.number)) (c.deref.ensures.value ∙ sym c.deref-4.ensures.value) in
    let has : HasLists c.relist.new.indexes (store_changed c.args.next cs s) =
    subst (λ q. HasLists c.relist.new.indexes (store_changed c.args.next q s)) c.deref-4.ensures.value
    (c.in-Ok-relist.ensures.has s c.args.next ours.keeps (sym schema ∙ sym c.schema_on-schema.ensures) (subst (AreRecChanges s.schema (class_of s) s.next c.args.next) (sym c.deref-4.ensures.value) here) olds ours.lists) in
    changed_shows (record old { slots = read }) c.change.new.self looked (g.H.Host.disk c.change.new.host) c.relist.new.indexes cs c.args.next c.change.ensures.header (c.in-Ok.ensures.committed told)
    (λ id. c.in-Ok.ensures.session told id ∙ ap (λ q. changed q (session read looked) id) spelled)
    c.relist.ensures.extents_marked c.relist.ensures.marked k s before may.storable (subst (λ q. IsTrue (keeps_rules q)) (sym schema) (ours.keeps).schema) (keeps_changed s c.args.next cs ours.keeps here)
    (λ n. at_records cs s.records n may.distinct) has

pub returns-in-Ok-relist-clause-agrees : goal.returns-in-Ok-relist-clause-agrees
returns-in-Ok-relist-clause-agrees g c told =
    let i = c.self.inside in
    let then : Heading = record { next = i.next; schema = i.schema } in
    let now : Heading = record { next = i.session.next; schema = unwrap_or i.session.schema i.schema } in
    let old : FiledStore = record { slots = i.slots; committed = then; session = now; lists = i.indexes; touched = i.session.touched } in
    let read = c.fetch_olds.new.slots in
    let same = c.fetch_olds.ensures.same in
    let disk = g.H.Host.disk c.args.host.now in
    let looked = g.H.Host.disk c.fetch_olds.new.host in
    let t = c.change.new.self in
    let later = g.H.Host.disk c.change.new.host in
    let was : Agrees old disk = subst (λ x. Agrees x disk) (sym c.self.view_is) (c.requires.agrees told) in
    let lists : lists_then c.relist.new.indexes ≡ lists_then i.indexes = same_then i.indexes c.relist.new.indexes c.relist.ensures.extents_marked c.relist.ensures.marked in
    let header : t.header ≡ (i.slots).header = c.change.ensures.header ∙ ap (λ (x : Slots). x.header) same in
    let map_is : committed t later ≡ committed i.slots disk = same_maps _ _ (c.in-Ok.ensures.committed told) ∙ read_committed old read same disk looked (c.fetch_olds.ensures.looks told).bytes in
    inr (record {
      slots = c.in-Ok.ensures.agrees told;
      outline = subst (λ h. IsOutline h.first (committed t later) then.next then.schema (lists_then c.relist.new.indexes)) (sym header)
          (subst (λ m. IsOutline ((i.slots).header).first m then.next then.schema (lists_then c.relist.new.indexes)) (sym map_is) (subst (IsOutline ((i.slots).header).first (committed i.slots disk) then.next then.schema) (sym lists) was.outline));
    })

pub returns-in-Ok-relist-clause-room : goal.returns-in-Ok-relist-clause-room
returns-in-Ok-relist-clause-room g c =
    let i = c.self.inside in
    let then : Heading = record { next = i.next; schema = i.schema } in
    let now : Heading = record { next = i.session.next; schema = unwrap_or i.session.schema i.schema } in
    let old : FiledStore = record { slots = i.slots; committed = then; session = now; lists = i.indexes; touched = i.session.touched } in
    let read = c.fetch_olds.new.slots in
    let same = c.fetch_olds.ensures.same in
    let cs = c.args.changes.items in
    let v = c.args.self.now in
    let spelled : c.in_ok-spelled.spelled.items ≡ map slot_change cs = c.in_ok-spelled.ensures ∙ ap (map slot_change) c.deref-2.ensures.value in
    let rooms : read.room ≡ (v.slots).room = ap (λ (x : Slots). x.room) same ∙ ap (λ (x : FiledStore). (x.slots).room) c.self.view_is in
    let lens : lengths_of c.in_ok-spelled.spelled.items ≡ record_lens cs = ap lengths_of spelled ∙ lens_are (v.session).schema cs c.requires.changes.storable in
    sym (λ j. lacking (rooms j).unit (rooms j).limit (unplaced (rooms j)) (lens j)) ∙ c.in-Ok.ensures.room

pub returns-in-Ok-relist-clause-end : goal.returns-in-Ok-relist-clause-end
returns-in-Ok-relist-clause-end g c =
    let i = c.self.inside in
    let then : Heading = record { next = i.next; schema = i.schema } in
    let now : Heading = record { next = i.session.next; schema = unwrap_or i.session.schema i.schema } in
    let old : FiledStore = record { slots = i.slots; committed = then; session = now; lists = i.indexes; touched = i.session.touched } in
    let read = c.fetch_olds.new.slots in
    let same = c.fetch_olds.ensures.same in
    let cs = c.args.changes.items in
    let v = c.args.self.now in
    let spelled : c.in_ok-spelled.spelled.items ≡ map slot_change cs = c.in_ok-spelled.ensures ∙ ap (map slot_change) c.deref-2.ensures.value in
    let rooms : read.room ≡ (v.slots).room = ap (λ (x : Slots). x.room) same ∙ ap (λ (x : FiledStore). (x.slots).room) c.self.view_is in
    let lens : lengths_of c.in_ok-spelled.spelled.items ≡ record_lens cs = ap lengths_of spelled ∙ lens_are (v.session).schema cs c.requires.changes.storable in
    c.in-Ok.ensures.end ∙ (λ j. (placed (rooms j).unit (unplaced (rooms j)) (lens j)).end)

pub returns-in-Ok-relist-clause-any_moment : goal.returns-in-Ok-relist-clause-any_moment
returns-in-Ok-relist-clause-any_moment g c told k s shows =
    let i = c.self.inside in
    let then : Heading = record { next = i.next; schema = i.schema } in
    let now : Heading = record { next = i.session.next; schema = unwrap_or i.session.schema i.schema } in
    let old : FiledStore = record { slots = i.slots; committed = then; session = now; lists = i.indexes; touched = i.session.touched } in
    let read = c.fetch_olds.new.slots in
    let same = c.fetch_olds.ensures.same in
    let disk = g.H.Host.disk c.args.host.now in
    let looked = g.H.Host.disk c.fetch_olds.new.host in
    let was : Shows old disk k s = subst (λ x. Shows x disk k s) (sym c.self.view_is) shows in
    before_still read.header read.pages disk looked k (read_spelled old read same disk k was.spelled) (c.fetch_olds.ensures.looks told) (g.H.Host.disk c.change.new.host) (c.change.ensures.any_moment told)

pub invariant_of-self-in-Err : goal.invariant_of-self-in-Err
invariant_of-self-in-Err g c =
    let i = c.self.inside in
    let then : Heading = record { next = i.next; schema = i.schema } in
    let now : Heading = record { next = i.session.next; schema = unwrap_or i.session.schema i.schema } in
    let old : FiledStore = record { slots = i.slots; committed = then; session = now; lists = i.indexes; touched = i.session.touched } in
    let read = c.fetch_olds.new.slots in
    let same = c.fetch_olds.ensures.same in
    let t = c.give_up-in-Err.new.slots in
    let e = c.give_up-in-Err.ensures in
    let after : Heading = record { next = c.give_up-in-Err.new.session.next; schema = unwrap_or c.give_up-in-Err.new.session.schema i.schema } in
    let back : after ≡ then = λ j. record { next = e.next j; schema = unwrap_or (e.schema j) i.schema } in
    let pages : t.pages ≡ (i.slots).pages = e.pages ∙ c.change.ensures.pages ∙ ap (λ (x : Slots). x.pages) same in
    let lists : c.give_up-in-Err.new.indexes ≡ lists_then i.indexes = e.lists ∙ same_then i.indexes c.relist.new.indexes c.relist.ensures.extents_marked c.relist.ensures.marked in
    let rolled = rolled_filed i.slots t then now i.indexes i.session.classes.entries c.self.invariant.0 pages e.objects e.system in (
      subst (IsFiled t then after c.give_up-in-Err.new.indexes) (sym e.classes)
          (subst (λ l. IsFiled t then after l []) (sym lists) (subst (λ h. IsFiled t then h (lists_then i.indexes) []) (sym back) rolled)),
      λ is. parted_fresh t then i.indexes c.give_up-in-Err.new.indexes c.give_up-in-Err.new.session.next c.give_up-in-Err.new.session.schema c.give_up-in-Err.new.session.touched e.next e.schema lists e.touched e.objects e.system c.self.invariant.0.written,
    )

pub returns-clause-agrees : goal.returns-clause-agrees
returns-clause-agrees g c told =
    let i = c.self.inside in
    let then : Heading = record { next = i.next; schema = i.schema } in
    let now : Heading = record { next = i.session.next; schema = unwrap_or i.session.schema i.schema } in
    let old : FiledStore = record { slots = i.slots; committed = then; session = now; lists = i.indexes; touched = i.session.touched } in
    let read = c.fetch_olds.new.slots in
    let same = c.fetch_olds.ensures.same in
    let disk = g.H.Host.disk c.args.host.now in
    let looked = g.H.Host.disk c.fetch_olds.new.host in
    let t = c.give_up-in-Err.new.slots in
    let e = c.give_up-in-Err.ensures in
    let later = g.H.Host.disk c.change.new.host in
    let new : FiledStore = record { slots = t; committed = then; session = record { next = c.give_up-in-Err.new.session.next; schema = unwrap_or c.give_up-in-Err.new.session.schema i.schema }; lists = c.give_up-in-Err.new.indexes; touched = c.give_up-in-Err.new.session.touched } in
    let lists : c.give_up-in-Err.new.indexes ≡ lists_then i.indexes = e.lists ∙ same_then i.indexes c.relist.new.indexes c.relist.ensures.extents_marked c.relist.ensures.marked in
    let back : new ≡ fresh_store t then (lists_then i.indexes) = λ j. record { slots = t; committed = then; session = record { next = e.next j; schema = unwrap_or (e.schema j) i.schema }; lists = lists j; touched = e.touched j } in
    let was : Agrees old disk = subst (λ x. Agrees x disk) (sym c.self.view_is) (c.requires.agrees told) in
    let header : t.header ≡ (i.slots).header = e.header ∙ c.change.ensures.header ∙ ap (λ (x : Slots). x.header) same in
    let map_is : committed t later ≡ committed i.slots disk =
    same_committed c.change.new.self t later e.header e.pages ∙ same_maps _ _ (c.in-Ok.ensures.committed told) ∙ read_committed old read same disk looked (c.fetch_olds.ensures.looks told).bytes in
    inr (subst (λ x. Agrees x later) (sym back) (rolled_agrees old t disk later header map_is was (e.agrees later (c.in-Ok.ensures.agrees told))))

pub returns-clause-any_moment : goal.returns-clause-any_moment
returns-clause-any_moment g c told k s shows =
    let i = c.self.inside in
    let then : Heading = record { next = i.next; schema = i.schema } in
    let now : Heading = record { next = i.session.next; schema = unwrap_or i.session.schema i.schema } in
    let old : FiledStore = record { slots = i.slots; committed = then; session = now; lists = i.indexes; touched = i.session.touched } in
    let read = c.fetch_olds.new.slots in
    let same = c.fetch_olds.ensures.same in
    let disk = g.H.Host.disk c.args.host.now in
    let looked = g.H.Host.disk c.fetch_olds.new.host in
    let was : Shows old disk k s = subst (λ x. Shows x disk k s) (sym c.self.view_is) shows in
    before_still read.header read.pages disk looked k (read_spelled old read same disk k was.spelled) (c.fetch_olds.ensures.looks told) (g.H.Host.disk c.change.new.host) (c.change.ensures.any_moment told)

pub returns-clause-still_memory : goal.returns-clause-still_memory
returns-clause-still_memory g c is told k s shows =
    let i = c.self.inside in
    let then : Heading = record { next = i.next; schema = i.schema } in
    let now : Heading = record { next = i.session.next; schema = unwrap_or i.session.schema i.schema } in
    let old : FiledStore = record { slots = i.slots; committed = then; session = now; lists = i.indexes; touched = i.session.touched } in
    let read = c.fetch_olds.new.slots in
    let same = c.fetch_olds.ensures.same in
    let disk = g.H.Host.disk c.args.host.now in
    let looked = g.H.Host.disk c.fetch_olds.new.host in
    let t = c.give_up-in-Err.new.slots in
    let e = c.give_up-in-Err.ensures in
    let later = g.H.Host.disk c.change.new.host in
    let new : FiledStore = record { slots = t; committed = then; session = record { next = c.give_up-in-Err.new.session.next; schema = unwrap_or c.give_up-in-Err.new.session.schema i.schema }; lists = c.give_up-in-Err.new.indexes; touched = c.give_up-in-Err.new.session.touched } in
    let lists : c.give_up-in-Err.new.indexes ≡ lists_then i.indexes = e.lists ∙ same_then i.indexes c.relist.new.indexes c.relist.ensures.extents_marked c.relist.ensures.marked in
    let back : new ≡ fresh_store t then (lists_then i.indexes) = λ j. record { slots = t; committed = then; session = record { next = e.next j; schema = unwrap_or (e.schema j) i.schema }; lists = lists j; touched = e.touched j } in
    let was : Shows old disk k s = subst (λ x. Shows x disk k s) (sym c.self.view_is) shows in
    let header : t.header ≡ (i.slots).header = e.header ∙ c.change.ensures.header ∙ ap (λ (x : Slots). x.header) same in
    let map_is : committed t later ≡ committed i.slots disk =
    same_committed c.change.new.self t later e.header e.pages ∙ same_maps _ _ (c.in-Ok.ensures.committed told) ∙ read_committed old read same disk looked (c.fetch_olds.ensures.looks told).bytes in
    inr (subst (λ x. Shows x later k k) (sym back) (rolled_shows old t disk later header map_is e.objects e.system k s was))
