use Rattle.std.proofs.Common.{◌≡◌, ◌++◌, drop}
use Rattle.oc_graph.specs.Sights.{live_nodes_in}
use Rattle.oc_graph.proofs.memory.live_nodes.Given as goal

abbrev pub invariant-loop-handle : goal.invariant-loop-handle
invariant-loop-handle l = l.nodes.items ++ live_nodes_in (l.live).live (drop l.handle-index l.handles) ≡ live_nodes_in (l.live).live l.handles
