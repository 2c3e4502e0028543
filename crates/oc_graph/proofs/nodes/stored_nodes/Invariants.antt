use Rattle.std.proofs.Common.{◌≡◌, ◌++◌, drop, filter_map}
use Rattle.oc_graph.specs.Objects.{extents_in}
use Rattle.oc_graph.specs.Sights.{node_in}
use Rattle.oc_graph.proofs.nodes.stored_nodes.Given as goal

abbrev pub invariant-loop-number : goal.invariant-loop-number
invariant-loop-number l =
    l.nodes.items ++ filter_map (node_in (l.live).live (extents_in l.store)) (drop l.number-index l.numbers)
    ≡ filter_map (node_in (l.live).live (extents_in l.store)) l.numbers
