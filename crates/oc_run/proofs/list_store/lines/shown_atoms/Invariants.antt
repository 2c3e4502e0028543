use Rattle.std.proofs.Common.{◌≡◌, ◌++◌, drop, map}
use Rattle.oc_machine.specs.Showing.{shown_atom_by}
use Rattle.oc_run.specs.ListStore.{mark_within}
use Rattle.oc_run.proofs.list_store.lines.shown_atoms.Given as goal

abbrev pub invariant-loop-atom : goal.invariant-loop-atom
invariant-loop-atom l = l.shown ++ map (shown_atom_by (mark_within l.count)) (drop l.atom-index l.atoms) ≡ map (shown_atom_by (mark_within l.count)) l.atoms
