use Rattle.std.proofs.Common.{◌≡◌, ◌≢◌, ◌⊎◌, inl, inr, ⊎_elim, ◌∙◌, ap, refl, sym, subst, ℕ, Bool, true, false, List, [], None, Some, Err}
use Rattle.oc_host.specs.Disk.{LeavesOnly}
use Rattle.oc_layout.specs.Layout.{is_wide}
use Rattle.oc_room.specs.Rooms.{lacking, placed, unplaced}
use Rattle.oc_slots.specs.declared.slot.SlotId.{SlotId}
use Rattle.oc_slots.specs.Commits.{BeforeOrAfter}
use Rattle.oc_slots.specs.Planning.{moves_in, AreLengths}
use Rattle.oc_slots.specs.Stores.{Slots}
use Rattle.oc_store.specs.Changed.{IsSameStore}
use Rattle.oc_store.specs.Committing.{IsLast}
use Rattle.oc_store.specs.Filed.{Agrees, FiledStore, IsFiled, IsFresh, Shows}
use Rattle.oc_store.specs.Last.{lists_written}
use Rattle.oc_store.proofs.CommittedSides.{settled_filed}
use Rattle.oc_store.proofs.CommittedStores.{both_one, either_left, settled_agrees, settled_fresh, settled_shows, store_with}
use Rattle.oc_store.proofs.Fresh.{none_moves, still_fresh}
use Rattle.oc_store.proofs.UnchangedStore.{full_keeps, memory_keeps, same_full, unchanged_agrees, unchanged_filed, unchanged_slots}
use Rattle.oc_store.proofs.Written.{is_marked}
use Rattle.oc_store.proofs.store.Store.commit.Goals as goal

pub invariant_of-self : goal.invariant_of-self
invariant_of-self g c =
    let i = c.self.inside in
    let old : FiledStore = store_with i.slots i.next i.schema i.session.next i.session.schema i.indexes i.session.touched in
    let cs = c.in_ok-changes.field-0.changes.items in
    let ns = c.in_ok-changes.field-0.numbers.items in
    let is : IsLast old cs ns = subst (λ (x : FiledStore). IsLast x cs ns) (sym c.self.view_is) c.in_ok-changes.ensures.is in
    let t = c.commit.new.self in
    let n = c.settle.new in
    let e = c.settle.ensures in
    let lists : n.indexes ≡ lists_written ns i.indexes = e.lists ∙ ap (λ (k : List ℕ). lists_written k i.indexes) c.deref.ensures.value in
    let whole = both_one t old.session (lists_written ns i.indexes) n.indexes n.next n.schema n.session.next n.session.schema n.session.touched e.next e.schema e.session_next e.session_schema lists e.touched in
    let settled = c.in-Ok.ensures.settled in (
      subst (λ (x : FiledStore). IsFiled x.slots x.committed x.session x.lists n.session.classes.entries) (sym whole)
          (subst (IsFiled t old.session old.session (lists_written ns i.indexes)) (sym e.classes) (settled_filed old i.session.classes.entries c.self.invariant.0 cs ns is t settled)),
      λ was. subst IsFresh (sym whole) (settled_fresh t old.session ns i.indexes settled.objects settled.system),
    )

pub returns-in-Ok-clause-shows : goal.returns-in-Ok-clause-shows
returns-in-Ok-clause-shows g c told k s shows =
    let i = c.self.inside in
    let old : FiledStore = store_with i.slots i.next i.schema i.session.next i.session.schema i.indexes i.session.touched in
    let cs = c.in_ok-changes.field-0.changes.items in
    let ns = c.in_ok-changes.field-0.numbers.items in
    let is : IsLast old cs ns = subst (λ (x : FiledStore). IsLast x cs ns) (sym c.self.view_is) c.in_ok-changes.ensures.is in
    let t = c.commit.new.self in
    let n = c.settle.new in
    let e = c.settle.ensures in
    let lists : n.indexes ≡ lists_written ns i.indexes = e.lists ∙ ap (λ (k : List ℕ). lists_written k i.indexes) c.deref.ensures.value in
    let whole = both_one t old.session (lists_written ns i.indexes) n.indexes n.next n.schema n.session.next n.session.schema n.session.touched e.next e.schema e.session_next e.session_schema lists e.touched in
    let d = g.H.Host.disk c.args.host.now in
    let was : Agrees old d = subst (λ (x : FiledStore). Agrees x d) (sym c.self.view_is) (c.requires.agrees told) in
    let after = g.H.Host.disk c.commit.new.host in
    let shown : Shows old d k s = subst (λ (x : FiledStore). Shows x d k s) (sym c.self.view_is) shows in
    let settled = c.in-Ok.ensures.settled in
    subst (λ (x : FiledStore). Shows x after s s) (sym whole)
    (settled_shows old d cs ns is c.self.invariant.0.system was t after (ap (λ h. h.first) c.in-Ok.ensures.header) (c.in-Ok.ensures.committed told) settled.objects settled.system k s shown)

pub returns-in-Ok-clause-agrees : goal.returns-in-Ok-clause-agrees
returns-in-Ok-clause-agrees g c told =
    let i = c.self.inside in
    let old : FiledStore = store_with i.slots i.next i.schema i.session.next i.session.schema i.indexes i.session.touched in
    let cs = c.in_ok-changes.field-0.changes.items in
    let ns = c.in_ok-changes.field-0.numbers.items in
    let is : IsLast old cs ns = subst (λ (x : FiledStore). IsLast x cs ns) (sym c.self.view_is) c.in_ok-changes.ensures.is in
    let t = c.commit.new.self in
    let n = c.settle.new in
    let e = c.settle.ensures in
    let lists : n.indexes ≡ lists_written ns i.indexes = e.lists ∙ ap (λ (k : List ℕ). lists_written k i.indexes) c.deref.ensures.value in
    let whole = both_one t old.session (lists_written ns i.indexes) n.indexes n.next n.schema n.session.next n.session.schema n.session.touched e.next e.schema e.session_next e.session_schema lists e.touched in
    let d = g.H.Host.disk c.args.host.now in
    let was : Agrees old d = subst (λ (x : FiledStore). Agrees x d) (sym c.self.view_is) (c.requires.agrees told) in
    let after = g.H.Host.disk c.commit.new.host in
    inr (subst (λ (x : FiledStore). Agrees x after) (sym whole)
    (settled_agrees old d cs ns is c.self.invariant.0.system was t after (ap (λ h. h.first) c.in-Ok.ensures.header) (c.in-Ok.ensures.committed told) (c.in-Ok.ensures.agrees told)))

pub returns-in-Ok-clause-fresh : goal.returns-in-Ok-clause-fresh
returns-in-Ok-clause-fresh g c =
    let i = c.self.inside in
    let old : FiledStore = store_with i.slots i.next i.schema i.session.next i.session.schema i.indexes i.session.touched in
    let cs = c.in_ok-changes.field-0.changes.items in
    let ns = c.in_ok-changes.field-0.numbers.items in
    let t = c.commit.new.self in
    let n = c.settle.new in
    let e = c.settle.ensures in
    let lists : n.indexes ≡ lists_written ns i.indexes = e.lists ∙ ap (λ (k : List ℕ). lists_written k i.indexes) c.deref.ensures.value in
    let whole = both_one t old.session (lists_written ns i.indexes) n.indexes n.next n.schema n.session.next n.session.schema n.session.touched e.next e.schema e.session_next e.session_schema lists e.touched in
    let settled = c.in-Ok.ensures.settled in
    subst IsFresh (sym whole) (settled_fresh t old.session ns i.indexes settled.objects settled.system)

pub returns-in-Ok-clause-lists : goal.returns-in-Ok-clause-lists
returns-in-Ok-clause-lists g c =
    let i = c.self.inside in
    let old : FiledStore = store_with i.slots i.next i.schema i.session.next i.session.schema i.indexes i.session.touched in
    let cs = c.in_ok-changes.field-0.changes.items in
    let ns = c.in_ok-changes.field-0.numbers.items in
    let t = c.commit.new.self in
    let n = c.settle.new in
    let e = c.settle.ensures in
    let lists : n.indexes ≡ lists_written ns i.indexes = e.lists ∙ ap (λ (k : List ℕ). lists_written k i.indexes) c.deref.ensures.value in
    let whole = both_one t old.session (lists_written ns i.indexes) n.indexes n.next n.schema n.session.next n.session.schema n.session.touched e.next e.schema e.session_next e.session_schema lists e.touched in
    (cs, ns, c.in_ok-changes.ensures.is, lists ∙ ap (λ (x : FiledStore). lists_written ns x.lists) c.self.view_is)

pub returns-in-Ok-clause-room : goal.returns-in-Ok-clause-room
returns-in-Ok-clause-room g c =
    let cs = c.in_ok-changes.field-0.changes.items in
    let ns = c.in_ok-changes.field-0.numbers.items in
    let t = c.commit.new.self in
    let placed_so = λ (s : Slots). ((id : SlotId) → moves_in s cs id ≢ true) × (c.commit.new.host ≡ c.args.host.now) × ((t.room).end ≡ (s.room).end)
    ⊎ ((lens : List ℕ) × AreLengths (is_wide s.header) s.pages (moves_in s cs) cs lens × (lacking (s.room).unit (s.room).limit (unplaced s.room) lens ≡ None) × ((t.room).end ≡ (placed (s.room).unit (unplaced s.room) lens).end)) in
    let here = ⊎_elim (λ none. inl (none, (c.commit.ensures.idle none).0, (c.commit.ensures.idle none).1)) (λ there. inr there) c.in-Ok.ensures.room in
    (cs, ns, c.in_ok-changes.ensures.is, subst (λ (x : FiledStore). placed_so x.slots) c.self.view_is here)

pub returns-in-Ok-clause-any_moment : goal.returns-in-Ok-clause-any_moment
returns-in-Ok-clause-any_moment g c told k s shows =
    let cs = c.in_ok-changes.field-0.changes.items in
    let ns = c.in_ok-changes.field-0.numbers.items in
    let d = g.H.Host.disk c.args.host.now in
    let after = g.H.Host.disk c.commit.new.host in
    let system = subst (λ (x : FiledStore). (x.slots).system ≡ []) c.self.view_is c.self.invariant.0.system in
    let leaves = subst (λ (x : FiledStore). LeavesOnly d after (BeforeOrAfter x.slots cs d)) c.self.view_is (c.commit.ensures.any_moment told) in
    either_left c.args.self.now d cs ns c.in_ok-changes.ensures.is system (c.requires.agrees told) after k s shows leaves

pub invariant_of-self-in-Err-Host : goal.invariant_of-self-in-Err-Host
invariant_of-self-in-Err-Host g c =
    let i = c.self.inside in
    let old : FiledStore = store_with i.slots i.next i.schema i.session.next i.session.schema i.indexes i.session.touched in
    let cs = c.in_ok-changes.field-0.changes.items in
    let ns = c.in_ok-changes.field-0.numbers.items in
    let is : IsLast old cs ns = subst (λ (x : FiledStore). IsLast x cs ns) (sym c.self.view_is) c.in_ok-changes.ensures.is in
    let t = c.commit.new.self in
    let n = c.settle-in-Err-Host.new in
    let e = c.settle-in-Err-Host.ensures in
    let lists : n.indexes ≡ lists_written ns i.indexes = e.lists ∙ ap (λ (k : List ℕ). lists_written k i.indexes) c.deref-in-Err-Host.ensures.value in
    let whole = both_one t old.session (lists_written ns i.indexes) n.indexes n.next n.schema n.session.next n.session.schema n.session.touched e.next e.schema e.session_next e.session_schema lists e.touched in
    let settled = c.in-Err-Host.ensures.spent (ap Err c.in-Err-Host.field-0-is) in (
      subst (λ (x : FiledStore). IsFiled x.slots x.committed x.session x.lists n.session.classes.entries) (sym whole)
          (subst (IsFiled t old.session old.session (lists_written ns i.indexes)) (sym e.classes) (settled_filed old i.session.classes.entries c.self.invariant.0 cs ns is t settled)),
      λ was. subst IsFresh (sym whole) (settled_fresh t old.session ns i.indexes settled.objects settled.system),
    )

pub returns-in-Err-Host-clause-any_moment : goal.returns-in-Err-Host-clause-any_moment
returns-in-Err-Host-clause-any_moment g c told k s shows =
    let cs = c.in_ok-changes.field-0.changes.items in
    let ns = c.in_ok-changes.field-0.numbers.items in
    let d = g.H.Host.disk c.args.host.now in
    let after = g.H.Host.disk c.commit.new.host in
    let system = subst (λ (x : FiledStore). (x.slots).system ≡ []) c.self.view_is c.self.invariant.0.system in
    let leaves = subst (λ (x : FiledStore). LeavesOnly d after (BeforeOrAfter x.slots cs d)) c.self.view_is (c.commit.ensures.any_moment told) in
    either_left c.args.self.now d cs ns c.in_ok-changes.ensures.is system (c.requires.agrees told) after k s shows leaves

pub invariant_of-self-in-Err-Memory : goal.invariant_of-self-in-Err-Memory
invariant_of-self-in-Err-Memory g c =
    let i = c.self.inside in
    let old : FiledStore = store_with i.slots i.next i.schema i.session.next i.session.schema i.indexes i.session.touched in
    let same = memory_keeps c.in-Err-Memory.field-0 c.in-Err-Memory.field-0-is c.in-Err-Memory.ensures.unchanged in
    (unchanged_filed i.slots c.commit.new.self same.0 old.committed old.session i.indexes i.session.classes.entries c.self.invariant.0, still_fresh old c.commit.new.self (same.0).objects (same.0).system c.self.invariant.1)

pub returns-in-Err-Memory-clause-agrees : goal.returns-in-Err-Memory-clause-agrees
returns-in-Err-Memory-clause-agrees g c told =
    let i = c.self.inside in
    let old : FiledStore = store_with i.slots i.next i.schema i.session.next i.session.schema i.indexes i.session.touched in
    let same = memory_keeps c.in-Err-Memory.field-0 c.in-Err-Memory.field-0-is c.in-Err-Memory.ensures.unchanged in
    let d = g.H.Host.disk c.args.host.now in
    let was : Agrees old d = subst (λ (x : FiledStore). Agrees x d) (sym c.self.view_is) (c.requires.agrees told) in
    let new : FiledStore = record old { slots = c.commit.new.self } in
    inr (subst (λ h. Agrees new (g.H.Host.disk h)) (sym same.1) (unchanged_agrees i.slots c.commit.new.self same.0 d old.committed old.session i.indexes i.session.touched was))

pub returns-in-Err-Memory-clause-unchanged : goal.returns-in-Err-Memory-clause-unchanged
returns-in-Err-Memory-clause-unchanged g c =
    let i = c.self.inside in
    let old : FiledStore = store_with i.slots i.next i.schema i.session.next i.session.schema i.indexes i.session.touched in
    let same = memory_keeps c.in-Err-Memory.field-0 c.in-Err-Memory.field-0-is c.in-Err-Memory.ensures.unchanged in
    let new : FiledStore = record old { slots = c.commit.new.self } in
    inr (same.1, subst (λ (x : FiledStore). IsSameStore x new) c.self.view_is (record { slots = unchanged_slots i.slots c.commit.new.self same.0; committed = refl; session = refl; lists = refl; touched = refl }))

pub returns-in-Err-Memory-clause-any_moment : goal.returns-in-Err-Memory-clause-any_moment
returns-in-Err-Memory-clause-any_moment g c told k s shows =
    let cs = c.in_ok-changes.field-0.changes.items in
    let ns = c.in_ok-changes.field-0.numbers.items in
    let d = g.H.Host.disk c.args.host.now in
    let after = g.H.Host.disk c.commit.new.host in
    let system = subst (λ (x : FiledStore). (x.slots).system ≡ []) c.self.view_is c.self.invariant.0.system in
    let leaves = subst (λ (x : FiledStore). LeavesOnly d after (BeforeOrAfter x.slots cs d)) c.self.view_is (c.commit.ensures.any_moment told) in
    either_left c.args.self.now d cs ns c.in_ok-changes.ensures.is system (c.requires.agrees told) after k s shows leaves

pub invariant_of-self-in-Err-Full : goal.invariant_of-self-in-Err-Full
invariant_of-self-in-Err-Full g c =
    let i = c.self.inside in
    let old : FiledStore = store_with i.slots i.next i.schema i.session.next i.session.schema i.indexes i.session.touched in
    let f = c.in-Err-Full in
    let same = full_keeps f.field-0 f.need f.len f.limit f.field-0-is f.ensures.unchanged in
    (unchanged_filed i.slots c.commit.new.self same.0 old.committed old.session i.indexes i.session.classes.entries c.self.invariant.0, still_fresh old c.commit.new.self (same.0).objects (same.0).system c.self.invariant.1)

pub returns-clause-agrees : goal.returns-clause-agrees
returns-clause-agrees g c told =
    let i = c.self.inside in
    let old : FiledStore = store_with i.slots i.next i.schema i.session.next i.session.schema i.indexes i.session.touched in
    let f = c.in-Err-Full in
    let same = full_keeps f.field-0 f.need f.len f.limit f.field-0-is f.ensures.unchanged in
    let d = g.H.Host.disk c.args.host.now in
    let was : Agrees old d = subst (λ (x : FiledStore). Agrees x d) (sym c.self.view_is) (c.requires.agrees told) in
    let new : FiledStore = record old { slots = c.commit.new.self } in
    inr (subst (λ h. Agrees new (g.H.Host.disk h)) (sym same.1) (unchanged_agrees i.slots c.commit.new.self same.0 d old.committed old.session i.indexes i.session.touched was))

pub returns-clause-unchanged : goal.returns-clause-unchanged
returns-clause-unchanged g c =
    let i = c.self.inside in
    let old : FiledStore = store_with i.slots i.next i.schema i.session.next i.session.schema i.indexes i.session.touched in
    let f = c.in-Err-Full in
    let same = full_keeps f.field-0 f.need f.len f.limit f.field-0-is f.ensures.unchanged in
    let new : FiledStore = record old { slots = c.commit.new.self } in
    inr (same.1, subst (λ (x : FiledStore). IsSameStore x new) c.self.view_is (record { slots = unchanged_slots i.slots c.commit.new.self same.0; committed = refl; session = refl; lists = refl; touched = refl }))

pub returns-clause-any_moment : goal.returns-clause-any_moment
returns-clause-any_moment g c told k s shows =
    let cs = c.in_ok-changes.field-0.changes.items in
    let ns = c.in_ok-changes.field-0.numbers.items in
    let d = g.H.Host.disk c.args.host.now in
    let after = g.H.Host.disk c.commit.new.host in
    let system = subst (λ (x : FiledStore). (x.slots).system ≡ []) c.self.view_is c.self.invariant.0.system in
    let leaves = subst (λ (x : FiledStore). LeavesOnly d after (BeforeOrAfter x.slots cs d)) c.self.view_is (c.commit.ensures.any_moment told) in
    either_left c.args.self.now d cs ns c.in_ok-changes.ensures.is system (c.requires.agrees told) after k s shows leaves

pub returns-clause-full : goal.returns-clause-full
returns-clause-full g c need len limit is =
    let cs = c.in_ok-changes.field-0.changes.items in
    let ns = c.in_ok-changes.field-0.numbers.items in
    let f = c.in-Err-Full in
    let full = f.ensures.full need len limit (same_full f.field-0 f.need f.len f.limit need len limit f.field-0-is is) in
    let lens = (full.1).0 in
    let are = subst (λ (x : FiledStore). AreLengths (is_wide (x.slots).header) (x.slots).pages (moves_in x.slots cs) cs lens) c.self.view_is (full.1).1 in
    let lacks = subst (λ (x : FiledStore). lacking ((x.slots).room).unit ((x.slots).room).limit (unplaced (x.slots).room) lens ≡ Some (record { need = need; length = len })) c.self.view_is (full.1).2 in
    (full.0 ∙ ap (λ (x : FiledStore). ((x.slots).room).limit) c.self.view_is, (cs, ns, lens, c.in_ok-changes.ensures.is, are, lacks))

pub returns-in-Ok-clause-untouched : goal.returns-in-Ok-clause-untouched
returns-in-Ok-clause-untouched g c was =
    let i = c.self.inside in
    let cs = c.in_ok-changes.field-0.changes.items in
    let fresh = c.self.invariant.1 (ap (λ (x : FiledStore). x.touched) c.self.view_is ∙ was) in
    let idle = c.commit.ensures.idle (none_moves i.slots cs (c.in_ok-changes.ensures.untouched was) fresh.objects fresh.system) in
    (idle.0, idle.1 ∙ ap (λ (x : FiledStore). ((x.slots).room).end) c.self.view_is)

pub returns-in-Err-Host-clause-untouched : goal.returns-in-Err-Host-clause-untouched
returns-in-Err-Host-clause-untouched g c was =
    let i = c.self.inside in
    let cs = c.in_ok-changes.field-0.changes.items in
    let fresh = c.self.invariant.1 (ap (λ (x : FiledStore). x.touched) c.self.view_is ∙ was) in
    let idle = c.commit.ensures.idle (none_moves i.slots cs (c.in_ok-changes.ensures.untouched was) fresh.objects fresh.system) in
    (idle.0, idle.1 ∙ ap (λ (x : FiledStore). ((x.slots).room).end) c.self.view_is)

pub returns-in-Err-Memory-clause-untouched : goal.returns-in-Err-Memory-clause-untouched
returns-in-Err-Memory-clause-untouched g c was =
    let i = c.self.inside in
    let cs = c.in_ok-changes.field-0.changes.items in
    let fresh = c.self.invariant.1 (ap (λ (x : FiledStore). x.touched) c.self.view_is ∙ was) in
    let idle = c.commit.ensures.idle (none_moves i.slots cs (c.in_ok-changes.ensures.untouched was) fresh.objects fresh.system) in
    (idle.0, idle.1 ∙ ap (λ (x : FiledStore). ((x.slots).room).end) c.self.view_is)

pub returns-clause-untouched : goal.returns-clause-untouched
returns-clause-untouched g c was =
    let i = c.self.inside in
    let cs = c.in_ok-changes.field-0.changes.items in
    let fresh = c.self.invariant.1 (ap (λ (x : FiledStore). x.touched) c.self.view_is ∙ was) in
    let idle = c.commit.ensures.idle (none_moves i.slots cs (c.in_ok-changes.ensures.untouched was) fresh.objects fresh.system) in
    (idle.0, idle.1 ∙ ap (λ (x : FiledStore). ((x.slots).room).end) c.self.view_is)

if_touched : (b : Bool) → (b ≡ false → ⊥) → b ≡ true
if_touched true off = refl
if_touched false off = absurd (off refl)

pub returns-clause-full_touched : goal.returns-clause-full_touched
returns-clause-full_touched g c need len limit is =
    let i = c.self.inside in
    let cs = c.in_ok-changes.field-0.changes.items in
    let f = c.in-Err-Full in
    let moved = f.ensures.some_moved need len limit (same_full f.field-0 f.need f.len f.limit need len limit f.field-0-is is) in
    if_touched (c.args.self.now).touched
    (λ was.
    let fresh = c.self.invariant.1 (ap (λ (x : FiledStore). x.touched) c.self.view_is ∙ was) in
    none_moves i.slots cs (c.in_ok-changes.ensures.untouched was) fresh.objects fresh.system moved.0 moved.1)
