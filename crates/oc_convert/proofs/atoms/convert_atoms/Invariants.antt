use Rattle.std.proofs.Common.{◌≡◌, ◌++◌, drop, option_map}
use Rattle.oc_convert.specs.Conversions.{converted_atoms}
use Rattle.oc_convert.proofs.atoms.convert_atoms.Given as goal

abbrev pub invariant-loop-atom : goal.invariant-loop-atom
invariant-loop-atom l = option_map (λ rest. l.all.items ++ rest) (converted_atoms l.base (drop l.atom-index l.atoms)) ≡ converted_atoms l.base l.atoms
