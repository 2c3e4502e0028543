use Rattle.std.proofs.Common.{◌≡◌, ◌++◌, drop, flat_map}
use Rattle.oc_model.specs.References.{refs_in_atom}
use Rattle.oc_graph.proofs.naming.push_atoms.Given as goal

abbrev pub invariant-loop-atom : goal.invariant-loop-atom
invariant-loop-atom l =
    l.named.items ++ flat_map refs_in_atom (drop l.atom-index l.atoms)
    ≡ l.fn.named.items ++ flat_map refs_in_atom l.atoms
