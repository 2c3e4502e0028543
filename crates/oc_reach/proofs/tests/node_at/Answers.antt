-- Every number and every handle is a node.
use Rattle.std.proofs.Common.{◌<◌, ◌^◌, arith}
use Rattle.oc_reach.specs.Drawn.{number_in, handle_in}
use Rattle.oc_reach.proofs.tests.node_at.Goals as goal

pub returns-then-place-eq1 : goal.returns-then-place-eq1
returns-then-place-eq1 c = let fits : c.args.place < 2 ^ 32 = omega arith in handle_in c.from.result (omega arith)

pub returns-else-place-eq1 : goal.returns-else-place-eq1
returns-else-place-eq1 c = number_in c.args.place (omega arith)
