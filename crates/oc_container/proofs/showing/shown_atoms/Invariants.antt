use Rattle.std.proofs.Common.{◌≡◌, ◌++◌, drop, map}
use Rattle.oc_machine.specs.Showing.{shown_atom_by}
use Rattle.oc_container.specs.Asked.{mark_in}
use Rattle.oc_container.proofs.showing.shown_atoms.Given as goal

abbrev pub invariant-loop-atom : goal.invariant-loop-atom
invariant-loop-atom l = l.shown ++ map (shown_atom_by (mark_in l.store)) (drop l.atom-index l.atoms) ≡ map (shown_atom_by (mark_in l.store)) l.atoms
