use Rattle.std.proofs.Common.{◌≡◌, ◌<◌, ◌∙◌, ℕ, ap, refl, sym, subst, arith, get_or, length, rules}
use Rattle.std.specs.Prelude.{IsErrOf}
use Rattle.oc_host.proofs.Moments.{looks_then}
use Rattle.oc_model.specs.Lists.{IsOneOf}
use Rattle.oc_machine.specs.Showing.{stored_line}
use Rattle.oc_slots.specs.declared.slot.Side.TheVariants.{Session}
use Rattle.oc_slots.specs.Stores.{length_of, length_on, session, session_place}
use Rattle.oc_lists.proofs.IndexedKinds.{one_at}
use Rattle.oc_store.specs.Filed.{class_on, FiledStore}
use Rattle.oc_store.specs.Stands.{object_slot}
use Rattle.oc_store.proofs.Fetched.{places_kept, read_as, slots_session}
use Rattle.oc_store.proofs.Readings.{rest_more}
use Rattle.oc_container.specs.declared.fault.Fault.TheVariants as line_fault
use Rattle.oc_container.specs.Contained.{keeping}
use Rattle.oc_container.proofs.Found.{lines_all, lines_more}
use Rattle.oc_container.proofs.querying.stored_lines.Goals as goal

pub returns-in_err-object_line-clause-looks : goal.returns-in_err-object_line-clause-looks
returns-in_err-object_line-clause-looks g c told = looks_then _ _ _ (c.loop-number.invariant.looks told) (c.object_line.ensures.looks told)

pub returns-in_err-object_line-clause-damaged : goal.returns-in_err-object_line-clause-damaged
returns-in_err-object_line-clause-damaged g c space n is =
    let inv = c.loop-number.invariant in
    let v = c.args.store.now in
    let ns = c.args.numbers.now in
    let i = c.loop-number.number-index in
    let lt : i < length ns = omega arith in
    let err : IsErrOf c.object_line.result (line_fault.Damaged space n) = search rules in
    let r = c.object_line.ensures.damaged space n err in
    let there : IsOneOf (get_or ns i 0) ns = one_at ns i 0 lt in (
      r.0,
      subst (λ k. IsOneOf k ns) (sym r.1) there,
      λ told found read.
          (let slots_are : session (c.loop-number.store).slots (g.H.Host.disk c.loop-number.host) ≡ session v.slots (g.H.Host.disk c.args.host.now) =
          ap (λ (t : FiledStore). session t.slots (g.H.Host.disk c.loop-number.host)) inv.same ∙ slots_session v.slots ((c.loop-number.store).slots).cached (g.H.Host.disk c.args.host.now) (g.H.Host.disk c.loop-number.host) (inv.looks told).bytes in
          r.2 told found (read_as _ _ (ap (λ (t : FiledStore). (t.session).schema) (sym inv.same)) _ _ (ap (λ (t : FiledStore). class_on Session t n) (sym inv.same)) _ _ (λ j. sym slots_are j (object_slot n)) found read)),
    )

pub loop-number-preserved : goal.loop-number-preserved
loop-number-preserved g c =
    let inv = c.loop-number.invariant in
    let v = c.args.store.now in
    let ns = c.args.numbers.now in
    let i = c.loop-number.number-index in
    let n : ℕ = get_or ns i 0 in
    let lt : i < length ns = omega arith in
    let places : session_place (c.loop-number.store).slots ≡ session_place v.slots = ap (λ (t : FiledStore). session_place t.slots) inv.same ∙ sym (places_kept v.slots ((c.loop-number.store).slots).cached) in
    let len : length_on Session (c.loop-number.store).slots (object_slot n) ≡ length_on Session v.slots (object_slot n) = λ j. length_of (places j (object_slot n)) in
    record {
      lines = λ told t s shows. lines_more (stored_line s) ns i lt c.loop-number.lines _ _ _ (c.in_ok-object_line.ensures.line told t s (inv.shows told t s shows)) c.in_ok-push_some.ensures (inv.lines told t s shows);
      agrees = c.object_line.ensures.agrees;
      shows = λ told t s shows. c.object_line.ensures.shows told t s (inv.shows told t s shows);
      same = c.object_line.ensures.same ∙ ap (keeping ((c.object_line.new.store).slots).cached) inv.same;
      looks = λ told. looks_then _ _ _ (inv.looks told) (c.object_line.ensures.looks told);
      later = omega (arith, inv.later, c.object_line.ensures.later);
      taken = omega (arith, inv.taken, c.object_line.ensures.taken, len, rest_more (λ k. length_on Session v.slots (object_slot k)) ns i n 0 lt refl);
    }

pub returns-in_err-push_some-clause-looks : goal.returns-in_err-push_some-clause-looks
returns-in_err-push_some-clause-looks g c told = looks_then _ _ _ (c.loop-number.invariant.looks told) (c.object_line.ensures.looks told)

pub returns-clause-lines : goal.returns-clause-lines
returns-clause-lines g c = λ told t s shows. lines_all (stored_line s) c.args.numbers.now c.loop-number.number-index (omega arith) c.loop-number.lines _ (c.loop-number.invariant.lines told t s shows)
