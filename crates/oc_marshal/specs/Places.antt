-- What stands in bytes at a place.
use Rattle.std.specs.Prelude.{◌≡◌, ◌≤◌, ◌&&◌, ◌^◌, ℕ, nat_lt, Bool, true, IsTrue, List, [], ◌∷◌, ◌++◌, drop, length, flat_map, Option, Some, None, if◌then◌else◌}
use Rattle.std.specs.List.{list_all}

-- In the bytes x stands from one place up to another, and passes the test.
pub record StandsAt {X : Type 0} (test : X → Bool) (spell : X → List ℕ) (bytes : List ℕ) (at : ℕ) (x : X) (to : ℕ) : Type 0 where
  pub passes : IsTrue (test x)
  pub spelled : drop at bytes ≡ spell x ++ drop to bytes
  pub within : to ≤ length bytes

-- Nothing that passes the test stands in the bytes at the place.
abbrev pub NothingAt : {X : Type 0} → (X → Bool) → (X → List ℕ) → List ℕ → ℕ → Type 0
NothingAt {X} test spell bytes at = (x : X) (rest : List ℕ) → IsTrue (test x) → drop at bytes ≡ spell x ++ rest → ⊥

-- ---- parts that are put together

abbrev pub flag_bytes : Bool → List ℕ
flag_bytes b = (if b then 1 else 0) ∷ []

abbrev pub any : {X : Type 0} → X → Bool
any x = true

-- the number has 16 bits
abbrev pub is_short : ℕ → Bool
is_short n = nat_lt n (2 ^ 16)

-- a byte for whether it is there, and then the thing
abbrev pub optional_bytes : {X : Type 0} → (X → List ℕ) → Option X → List ℕ
optional_bytes spell None = 0 ∷ []
optional_bytes spell (Some x) = 1 ∷ spell x

abbrev pub is_optional : {X : Type 0} → (X → Bool) → Option X → Bool
is_optional test None = true
is_optional test (Some x) = test x

-- one thing and then another
abbrev pub pair_bytes : {X Y : Type 0} → (X → List ℕ) → (Y → List ℕ) → X × Y → List ℕ
pair_bytes first second p = first p.0 ++ second p.1

abbrev pub is_pair : {X Y : Type 0} → (X → Bool) → (Y → Bool) → X × Y → Bool
is_pair first second p = first p.0 && second p.1

-- In the bytes the elements of the list stand one behind another, from one place up to another, and each passes the test.
abbrev pub StandInRow : {X : Type 0} → (X → Bool) → (X → List ℕ) → List ℕ → ℕ → List X → ℕ → Type 0
StandInRow test spell bytes at xs to = StandsAt (list_all test) (flat_map spell) bytes at xs to

-- No so many elements that pass the test stand in the bytes at the place, one behind another.
abbrev pub NoRowAt : {X : Type 0} → (X → Bool) → (X → List ℕ) → List ℕ → ℕ → ℕ → Type 0
NoRowAt {X} test spell bytes at count = (xs : List X) (rest : List ℕ) → length xs ≡ count → IsTrue (list_all test xs) → drop at bytes ≡ flat_map spell xs ++ rest → ⊥
