-- Numbers in order, each once.
use Rattle.std.specs.Prelude.{◌↔◌, ◌<◌, ℕ, List, Contains, AllPairs}

-- the numbers ascend, each once, and are those that have P
pub record AreAscending (P : ℕ → Type 0) (numbers : List ℕ) : Type 0 where
  pub ascend : AllPairs (λ m n. m < n) numbers
  pub exact : (n : ℕ) → Contains numbers n ↔ P n
