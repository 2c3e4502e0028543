use Rattle.std.proofs.Common.{◌≡◌, ◌<◌, ◌+◌, ◌∙◌, ◌++◌, ◌∷◌, [], ℕ, ap, inl, inr, sym, subst, arith, length, List, map, option_map, rules, take, Option, Some}
use Rattle.std.specs.Prelude.{is_some, IfSome, IsErrOf}
use Rattle.std.proofs.lemmas.List.{map-append, take_all}
use Rattle.oc_host.proofs.Moments.{looks_then}
use Rattle.oc_layout.specs.declared.cells.Space.TheVariants.{Objects}
use Rattle.oc_model.specs.declared.value.Rec.{Rec}
use Rattle.oc_model.specs.Lists.{IsOneOf}
use Rattle.oc_model.specs.Maps.{at}
use Rattle.oc_model.specs.StoreRules.{Suits}
use Rattle.oc_chunks.specs.Ascending.{Each}
use Rattle.oc_chunks.specs.Chunks.{joined}
use Rattle.oc_chunks.proofs.Eaches.{each_append}
use Rattle.oc_slots.specs.declared.slot.Side.TheVariants.{Session}
use Rattle.oc_slots.specs.Stores.{length_of, length_on, session, session_place, Slots}
use Rattle.oc_lists.specs.declared.record.RecChange.{RecChange}
use Rattle.oc_lists.specs.Lists.{class_in}
use Rattle.oc_lists.proofs.IndexedKinds.{one_at}
use Rattle.oc_store.specs.declared.fault.ReadFault.TheVariants as read_fault
use Rattle.oc_store.specs.Stands.{object_slot, SpellsObject}
use Rattle.oc_store.proofs.Fetched.{class_read, places_kept, read_as, read_spells, slots_session}
use Rattle.oc_store.proofs.OneStore.{one_object}
use Rattle.oc_store.proofs.Readings.{front_more, rest_more}
use Rattle.oc_store.proofs.olds.fetch_olds.Goals as goal

one_mapped : {X Y : Type 0} (f : X → Y) (x : X) (xs : List X) → IsOneOf x xs → IsOneOf (f x) (map f xs)
one_mapped f x [] one = absurd one
one_mapped f x (y ∷ ys) (inl same) = inl (ap f same)
one_mapped f x (y ∷ ys) (inr later) = inr (one_mapped f x ys later)

pub returns-in_err-old-clause-looks : goal.returns-in_err-old-clause-looks
returns-in_err-old-clause-looks g c told = looks_then _ _ _ (c.loop-change.invariant.looks told) (c.fetch_record.ensures.looks told)

pub returns-in_err-push-clause-looks : goal.returns-in_err-push-clause-looks
returns-in_err-push-clause-looks g c told = looks_then _ _ _ (c.loop-change.invariant.looks told) (c.fetch_record.ensures.looks told)

pub returns-in_err-old-clause-damaged : goal.returns-in_err-old-clause-damaged
returns-in_err-old-clause-damaged g c space n is =
    let inv = c.loop-change.invariant in
    let s = c.args.slots.now in
    let i = c.loop-change.change-index in
    let change = c.change-item.result in
    let lt : i < length c.args.changes.now = omega arith in
    let err : IsErrOf c.fetch_record.result (read_fault.Damaged space n) = search rules in
    let r = c.fetch_record.ensures.damaged space n err in
    let there : IsOneOf change c.args.changes.now = subst (λ (x : RecChange). IsOneOf x c.args.changes.now) (sym c.change-item.is) (one_at c.args.changes.now i change lt) in
    let named : IsOneOf change.number (map (λ (x : RecChange). x.number) c.args.changes.now) = one_mapped (λ (x : RecChange). x.number) change c.args.changes.now there in (
      r.0,
      subst (λ k. IsOneOf k (map (λ (x : RecChange). x.number) c.args.changes.now)) (sym r.1) named,
      λ told found read.
          (let slots_are : session c.loop-change.slots (g.H.Host.disk c.loop-change.host) ≡ session s (g.H.Host.disk c.args.host.now) =
          ap (λ t. session t (g.H.Host.disk c.loop-change.host)) inv.same ∙ slots_session s (c.loop-change.slots).cached (g.H.Host.disk c.args.host.now) (g.H.Host.disk c.loop-change.host) (inv.looks told).bytes in
          r.2 told found (read_as _ _ (λ j. c.args.schema.now) _ _ (ap (class_in (joined c.args.extents.now.chunks)) r.1 ∙ sym c.class_of-class.ensures) _ _ (ap (λ k. session s (g.H.Host.disk c.args.host.now) (object_slot k)) r.1 ∙ (λ j. sym slots_are j (object_slot change.number))) found read)),
    )

pub loop-change-preserved : goal.loop-change-preserved
loop-change-preserved g c =
    let inv = c.loop-change.invariant in
    let s = c.args.slots.now in
    let i = c.loop-change.change-index in
    let cs = c.args.changes.now in
    let change = c.change-item.result in
    let number = change.number in
    let old = c.in_ok-old.old in
    let es = joined c.args.extents.now.chunks in
    let lt : i < length cs = omega arith in
    let more : take (i + 1) cs ≡ take i cs ++ change ∷ [] = front_more cs i change change lt c.change-item.is in
    let grown : c.push.new.self.items ≡ c.loop-change.olds.items ++ old ∷ [] = c.in_ok-push.ensures.items in
    let places : session_place c.loop-change.slots ≡ session_place s = ap session_place inv.same ∙ sym (places_kept s (c.loop-change.slots).cached) in
    let there : is_some old ≡ is_some (class_in es number) = c.in_ok-old.ensures.there ∙ (λ j. is_some (places j (object_slot number))) ∙ c.requires.listed number in
    let class : option_map (λ (r : Rec). r.class) old ≡ class_in es number = class_read old (class_in es number) (subst (λ k. IfSome old (λ (r : Rec). k ≡ Some r.class)) c.class_of-class.ensures c.in_ok-old.ensures.class) there in
    let len : length_on Session c.loop-change.slots (object_slot number) ≡ length_on Session s (object_slot number) = λ j. length_of (places j (object_slot number)) in
    record {
      olds = λ told m spells.
          (let slots_are : session c.loop-change.slots (g.H.Host.disk c.loop-change.host) ≡ session s (g.H.Host.disk c.args.host.now) =
          ap (λ t. session t (g.H.Host.disk c.loop-change.host)) inv.same ∙ slots_session s (c.loop-change.slots).cached (g.H.Host.disk c.args.host.now) (g.H.Host.disk c.loop-change.host) (inv.looks told).bytes in
          let this : old ≡ at m number =
          one_object (session c.loop-change.slots (g.H.Host.disk c.loop-change.host) (object_slot number)) old (at m number) (read_spells c.args.schema.now c.class_of-class.result _ old (c.in_ok-old.ensures.read told))
          (subst (λ (f : _). SpellsObject (f (object_slot number)) (at m number)) (sym slots_are) (spells number)) in
          grown ∙ (λ j. inv.olds told m spells j ++ this j ∷ []) ∙ sym (map-append (λ (x : RecChange). at m x.number) (take i cs) (change ∷ [])) ∙ ap (map (λ (x : RecChange). at m x.number)) (sym more));
      classes = ap (map (option_map (λ (r : Rec). r.class))) grown ∙ map-append (option_map (λ (r : Rec). r.class)) c.loop-change.olds.items (old ∷ []) ∙ (λ j. inv.classes j ++ class j ∷ []) ∙ sym (map-append (λ (x : RecChange). class_in es x.number) (take i cs) (change ∷ [])) ∙ ap (map (λ (x : RecChange). class_in es x.number)) (sym more);
      suit = subst (λ l. Each (λ (o : Option Rec). IfSome o (Suits c.args.schema.now)) l) (sym grown) (each_append (λ (o : Option Rec). IfSome o (Suits c.args.schema.now)) c.loop-change.olds.items (old ∷ []) inv.suit (c.in_ok-old.ensures.suits, tt));
      same = c.fetch_record.ensures.same ∙ ap {A = Slots} (λ t. record t { cached = c.fetch_record.new.slots.cached }) inv.same;
      agrees = c.fetch_record.ensures.agrees;
      looks = λ told. looks_then _ _ _ (inv.looks told) (c.fetch_record.ensures.looks told);
      later = omega (arith, inv.later, c.fetch_record.ensures.later);
      taken = omega (arith, inv.taken, c.fetch_record.ensures.taken, len, rest_more (λ (x : RecChange). length_on Session s (object_slot x.number)) cs i change change lt c.change-item.is);
    }

pub returns-clause-olds : goal.returns-clause-olds
returns-clause-olds g c told m spells =
    c.loop-change.invariant.olds told m spells ∙ ap (map (λ (x : RecChange). at m x.number)) (take_all c.loop-change.change-index c.args.changes.now (omega arith))
