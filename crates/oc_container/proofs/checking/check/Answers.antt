use Rattle.std.proofs.Common.{◌≡◌, Err, sym, ◌∙◌, rules}
use Rattle.oc_container.specs.Outlined.{outlined}
use Rattle.oc_container.proofs.Checks.{at_end, turn_on, turn_to}
use Rattle.oc_container.proofs.checking.check.Goals as goal

pub returns-in_err-check_given : goal.returns-in_err-check_given
returns-in_err-check_given c =
    let m = outlined c.args.store.now c.args.live.now in
    let w = c.in_err-check_given.field-0.0 in
    let told : c.from_residual.result ≡ Err w = search rules in
    told
    ∙ sym (turn_to m c.args.class c.args.givens.now c.loop-place.place c.index-givens-place.result c.loop-place-test.true c.index-givens-place.is w (sym c.check_given.ensures ∙ c.in_err-check_given.was))
    ∙ c.loop-place.invariant

pub loop-place-preserved : goal.loop-place-preserved
loop-place-preserved c =
    let m = outlined c.args.store.now c.args.live.now in
    turn_on m c.args.class c.args.givens.now c.loop-place.place c.index-givens-place.result c.loop-place-test.true c.index-givens-place.is (sym c.check_given.ensures ∙ c.in_ok-check_given.was)
    ∙ c.loop-place.invariant

pub returns : goal.returns
returns c = at_end (outlined c.args.store.now c.args.live.now) c.args.class c.args.givens.now c.loop-place.place c.loop-place-test.false ∙ c.loop-place.invariant
