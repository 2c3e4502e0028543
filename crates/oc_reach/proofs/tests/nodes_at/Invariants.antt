-- What was pushed is a node.
use Rattle.std.specs.List.{All}
use Rattle.oc_model.specs.Lists.{IsOneOf}
use Rattle.oc_reach.specs.Drawn.{every_node}
use Rattle.oc_reach.proofs.tests.nodes_at.Given as goal

abbrev pub invariant-loop-place : goal.invariant-loop-place
invariant-loop-place l = All (λ y. IsOneOf y every_node) l.nodes.items
