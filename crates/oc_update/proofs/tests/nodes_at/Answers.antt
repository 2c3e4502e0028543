-- One node more is pushed.
use Rattle.std.proofs.lemmas.List.Elements.{All-push}
use Rattle.oc_model.specs.Lists.{IsOneOf}
use Rattle.oc_reach.specs.Drawn.{every_node}
use Rattle.oc_update.proofs.tests.nodes_at.Goals as goal

pub loop-place-preserved : goal.loop-place-preserved
loop-place-preserved c = rw c.in_ok-push.ensures.items (All-push (λ y. IsOneOf y every_node) _ _ c.loop-place.invariant c.node_at.ensures)
