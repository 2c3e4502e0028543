-- The table as it is kept: the triples by number, and the numbers by handle.
use Rattle.std.specs.Prelude.{◌≡◌, ℕ, nat_eq, List, length, Some}
use Rattle.std.specs.Ordering.{nat_cmp}
use Rattle.std.specs.Map.{lookup}
use Rattle.std.specs.FinMap as finite
use Rattle.oc_refs.specs.declared.table.Ref.{Ref}

-- the entries by ascending key
abbrev pub in_order : List (ℕ × Ref) → finite.FinMap nat_cmp Ref
in_order es = finite.from_entries es

-- the triples by ascending number
abbrev pub triples : List (ℕ × Ref) → List Ref
triples es = finite.values (in_order es)

-- Each triple stands under its number, each handle has the number of its triple, and no handle has another.
pub record Agree (refs : List (ℕ × Ref)) (numbers : List (ℕ × ℕ)) : Type 0 where
  pub count : length (triples refs) ≡ length refs
  pub named : (n : ℕ) (r : Ref) → lookup (nat_eq n) refs ≡ Some r → r.number ≡ n
  pub handled : (n : ℕ) (r : Ref) → lookup (nat_eq n) refs ≡ Some r → lookup (nat_eq r.handle) numbers ≡ Some n
  pub found : (h n : ℕ) → lookup (nat_eq h) numbers ≡ Some n → (r : Ref) × (lookup (nat_eq n) refs ≡ Some r) × (r.handle ≡ h)
