use Rattle.std.proofs.Common.{◌<◌, arith}
use Rattle.std.proofs.lemmas.List.Elements.{All-push}
use Rattle.oc_model.specs.Lists.{IsOneOf}
use Rattle.bench_parts.specs.Rows.{row}
use Rattle.bench_parts.proofs.Among.{among}
use Rattle.bench_parts.proofs.walks.between.Goals as goal

pub loop-handle-preserved : goal.loop-handle-preserved
loop-handle-preserved c =
    let below : c.loop-handle.handle < c.args.count = grind (arith, c.loop-handle-test.true, c.min-handle-end.ensures) in
    rw c.in_ok-push.ensures.items (All-push (λ y. IsOneOf y (row c.args.count)) _ _ c.loop-handle.invariant (among c.loop-handle.handle c.args.count below))
