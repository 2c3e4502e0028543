-- One number more, from behind.
use Rattle.std.proofs.Common.{◌≡◌, sym, ap, ◌∙◌, ◌||◌, ◌-◌, nat_eq, slice_index, refl, nat_cmp, true, false, drop}
use Rattle.std.specs.BTreeSet.{contains_by}
use Rattle.std.proofs.lemmas.Bool.{not-true, not-false}
use Rattle.oc_model.specs.Maps.{is_in}
use Rattle.oc_schema.proofs.FromBehind.{turn_number, not_apart, set_after}
use Rattle.oc_catalog.proofs.rules.are_apart.Goals as goal

pub returns-then-not-branch : goal.returns-then-not-branch
returns-then-not-branch c =
    let ns = c.args.numbers.now in
    let i = c.loop-place.place in
    let n = slice_index ns (i - 1) in
    let there = not-false (contains_by (nat_cmp n) c.loop-place.later) (sym c.in_ok-insert.ensures.added ∙ c.if-not-branch.true) in
    let among : is_in (drop i ns) n ≡ true = sym (c.loop-place.invariant.seen n) ∙ there in
    sym (not_apart ns (i - 1) (rw (turn_number ns i c.loop-place-test.true c.loop-place.auto.place, among) refl))

pub loop-place-preserved : goal.loop-place-preserved
loop-place-preserved c =
    let ns = c.args.numbers.now in
    let i = c.loop-place.place in
    let n = slice_index ns (i - 1) in
    let more = turn_number ns i c.loop-place-test.true c.loop-place.auto.place in
    let free = not-true (contains_by (nat_cmp n) c.loop-place.later) (sym c.in_ok-insert.ensures.added ∙ c.if-not-branch.false) in
    let others : is_in (drop i ns) n ≡ false = sym (c.loop-place.invariant.seen n) ∙ free in
    record {
      apart = rw (more, others) c.loop-place.invariant.apart;
      seen = λ q. rw more (set_after c.loop-place.later c.insert.new.self n c.in_ok-insert.ensures.updates q ∙ ap (λ b. nat_eq q n || b) (c.loop-place.invariant.seen q));
    }
