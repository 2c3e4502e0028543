-- The references in a value.
use Rattle.std.specs.Prelude.{ℕ, ◌==◌, List, [], ◌∷◌, flat_map, Some, None, if◌then◌else◌}
use Rattle.oc_model.specs.declared.value.Atom.{Atom}
use Rattle.oc_model.specs.declared.value.Atom.TheVariants as atom
use Rattle.oc_model.specs.declared.value.Value.{Value}
use Rattle.oc_model.specs.declared.value.Value.TheVariants as value

-- what a single value names: null names nothing
abbrev pub refs_in_atom : Atom → List ℕ
refs_in_atom (atom.Ref n) = if n == 0 then [] else n ∷ []
refs_in_atom _ = []

-- what a value names, the elements of an array in their order
abbrev pub refs_in : Value → List ℕ
refs_in (value.One a) = refs_in_atom a
refs_in (value.Many None) = []
refs_in (value.Many (Some items)) = flat_map refs_in_atom items
