use Rattle.std.proofs.Common.{◌≡◌, ◌++◌, drop, codes}
use Rattle.std.specs.List.{flat_map}
use Rattle.oc_machine.specs.Printing.{atom_text}
use Rattle.oc_print.proofs.values.put_other_atoms.Given as goal

abbrev pub invariant-loop-atom : goal.invariant-loop-atom
invariant-loop-atom l = l.out.items ++ flat_map (λ atom. codes ", " ++ atom_text atom) (drop l.atom-index l.atoms) ≡ l.fn.out.items ++ flat_map (λ atom. codes ", " ++ atom_text atom) l.atoms
