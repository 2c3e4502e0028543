use Rattle.std.proofs.Common.{◌≡◌, ◌<◌, ◌+◌, ◌∙◌, ◌++◌, ◌∷◌, [], ℕ, ap, refl, sym, subst, arith, get_or, length, rules, take}
use Rattle.std.specs.Prelude.{IsErrOf}
use Rattle.std.proofs.lemmas.List.{take_all}
use Rattle.oc_host.proofs.Moments.{looks_then}
use Rattle.oc_model.specs.Lists.{IsOneOf}
use Rattle.oc_model.specs.Maps.{at}
use Rattle.oc_chunks.specs.Chunks.{joined}
use Rattle.oc_slots.specs.declared.slot.Side.TheVariants.{Session}
use Rattle.oc_slots.specs.Stores.{length_of, length_on, session, session_place, Slots}
use Rattle.oc_lists.specs.Following.{records_of, AreEntering}
use Rattle.oc_lists.specs.Lists.{class_in}
use Rattle.oc_lists.proofs.IndexedKinds.{one_at}
use Rattle.oc_lists.proofs.Reindexed.{apart_before, no_records}
use Rattle.oc_store.specs.declared.fault.ReadFault.TheVariants as read_fault
use Rattle.oc_store.specs.Stands.{object_slot, SpellsObject}
use Rattle.oc_store.proofs.Fetched.{places_kept, read_as, slots_session}
use Rattle.oc_store.proofs.Readings.{front_more, rest_more}
use Rattle.oc_store.proofs.reindexing.enter_objects.Goals as goal

pub returns-in_err-enter_object-clause-looks : goal.returns-in_err-enter_object-clause-looks
returns-in_err-enter_object-clause-looks g c told = looks_then _ _ _ (c.loop-number.invariant.looks told) (c.enter_object.ensures.looks told)

pub returns-in_err-enter_object-clause-damaged : goal.returns-in_err-enter_object-clause-damaged
returns-in_err-enter_object-clause-damaged g c space n is =
    let inv = c.loop-number.invariant in
    let s = c.args.slots.now in
    let i = c.loop-number.number-index in
    let number : ℕ = get_or c.args.numbers.now i 0 in
    let lt : i < length c.args.numbers.now = omega arith in
    let err : IsErrOf c.enter_object.result (read_fault.Damaged space n) = search rules in
    let r = c.enter_object.ensures.damaged space n err in
    let there : IsOneOf number c.args.numbers.now = one_at c.args.numbers.now i 0 lt in (
      r.0,
      subst (λ k. IsOneOf k c.args.numbers.now) (sym r.1) there,
      λ told found read.
          (let slots_are : session c.loop-number.slots (g.H.Host.disk c.loop-number.host) ≡ session s (g.H.Host.disk c.args.host.now) =
          ap (λ t. session t (g.H.Host.disk c.loop-number.host)) inv.same ∙ slots_session s (c.loop-number.slots).cached (g.H.Host.disk c.args.host.now) (g.H.Host.disk c.loop-number.host) (inv.looks told).bytes in
          r.2 told found (read_as _ _ (λ j. c.args.old.now) _ _ (ap (λ e. class_in (joined e.chunks) n) (sym inv.extents)) _ _ (λ j. sym slots_are j (object_slot n)) found read)),
    )

pub loop-number-preserved : goal.loop-number-preserved
loop-number-preserved g c =
    let inv = c.loop-number.invariant in
    let s = c.args.slots.now in
    let i = c.loop-number.number-index in
    let ns = c.args.numbers.now in
    let n : ℕ = get_or ns i 0 in
    let lt : i < length ns = omega arith in
    let more : take (i + 1) ns ≡ take i ns ++ n ∷ [] = front_more ns i n 0 lt refl in
    let places : session_place c.loop-number.slots ≡ session_place s = ap session_place inv.same ∙ sym (places_kept s (c.loop-number.slots).cached) in
    let len : length_on Session c.loop-number.slots (object_slot n) ≡ length_on Session s (object_slot n) = λ j. length_of (places j (object_slot n)) in
    record {
      extents = c.enter_object.ensures.extents ∙ inv.extents;
      marked = c.enter_object.ensures.marked ∙ inv.marked;
      kept = λ h. c.in_ok-enter_object.ensures.kept (inv.kept h);
      numbered = λ has h. c.in_ok-enter_object.ensures.numbered has (inv.numbered has h);
      lists = c.in_ok-enter_object.ensures.lists;
      entered = λ told t are keeps spells apart entering.
          (let slots_are : session c.loop-number.slots (g.H.Host.disk c.loop-number.host) ≡ session s (g.H.Host.disk c.args.host.now) =
          ap (λ x. session x (g.H.Host.disk c.loop-number.host)) inv.same ∙ slots_session s (c.loop-number.slots).cached (g.H.Host.disk c.args.host.now) (g.H.Host.disk c.loop-number.host) (inv.looks told).bytes in
          let spelled : SpellsObject (session c.loop-number.slots (g.H.Host.disk c.loop-number.host) (object_slot n)) (at t.records n) = subst (λ (f : _). SpellsObject (f (object_slot n)) (at t.records n)) (sym slots_are) (spells n) in
          subst (λ l. AreEntering c.enter_object.new.indexes t c.args.new.now (records_of l t.records)) (sym more)
          (c.in_ok-enter_object.ensures.entered told t are keeps spelled (take i ns) (apart_before ns i 0 n lt refl apart) (inv.entered told t are keeps spells apart entering)));
      same = c.enter_object.ensures.same ∙ ap {A = Slots} (λ t. record t { cached = c.enter_object.new.slots.cached }) inv.same;
      agrees = c.enter_object.ensures.agrees;
      looks = λ told. looks_then _ _ _ (inv.looks told) (c.enter_object.ensures.looks told);
      later = omega (arith, inv.later, c.enter_object.ensures.later);
      taken = omega (arith, inv.taken, c.enter_object.ensures.taken, len, rest_more (λ k. length_on Session s (object_slot k)) ns i n 0 lt refl);
    }

pub returns-clause-entered : goal.returns-clause-entered
returns-clause-entered g c told s are keeps spells apart entering =
    subst (λ l. AreEntering c.loop-number.indexes s c.args.new.now (records_of l s.records)) (take_all c.loop-number.number-index c.args.numbers.now (omega arith))
    (c.loop-number.invariant.entered told s are keeps spells apart (subst (AreEntering c.args.indexes.now s c.args.new.now) (sym (no_records s.records)) entering))
