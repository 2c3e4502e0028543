-- The numbers that segments get.
use Rattle.std.specs.Prelude.{ℕ, ◌≤◌, ◌<◌, ◌⊎◌, List, length, get_or}
use Rattle.oc_model.specs.Lists.{IsOneOf}
use Rattle.oc_chunks.specs.Ascending.{Pairs}

-- a segment may have the number: 1 is the catalog's
abbrev pub IsSegmentNumber : ℕ → Type 0
IsSegmentNumber n = (2 ≤ n) × (n ≤ 2147483646)

-- each number is below those that follow
abbrev pub AreRising : List ℕ → Type 0
AreRising = Pairs (λ m n. m < n)

-- each number from 2 on that is below one of these is used or is one of them
abbrev pub AreLeast : List ℕ → List ℕ → Type 0
AreLeast used numbers = (m n : ℕ) → IsOneOf n numbers → 2 ≤ m → m < n → IsOneOf m used ⊎ IsOneOf m numbers

-- those before this place are below the number, and those from it on are not
pub record SplitAt (numbers : List ℕ) (number place : ℕ) : Type 0 where
  pub below : (i : ℕ) → i < place → i < length numbers → get_or numbers i 0 < number
  pub from : (i : ℕ) → place ≤ i → i < length numbers → number ≤ get_or numbers i 0
