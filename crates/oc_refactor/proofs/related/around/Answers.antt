use Rattle.std.proofs.Common.{◌∙◌, ◌<◌, length, map, arith}
use Rattle.oc_refactor.proofs.Around.{around_turn}
use Rattle.oc_refactor.proofs.related.around.Goals as goal

pub loop-place-preserved : goal.loop-place-preserved
loop-place-preserved c =
    let lt : c.loop-place.place < length c.args.schema.now.classes = omega (arith, c.loop-place-test.true, c.len-place-end.ensures) in
    around_turn c.args.schema.now c.args.class c.loop-place.place (map (λ d. d.now) c.loop-place.around.items) (map (λ d. d.now) c.push_related.new.around.items) lt c.in_ok-push_related.ensures ∙ c.loop-place.invariant
