-- How free parts are kept: once by address, and once by size.
use Rattle.std.specs.Prelude.{◌≡◌, ◌<◌, ◌≤◌, ℕ, ◌==◌, ◌&&◌, true, false, Bool, List, length, slice_index_or, AllPairs, count_by}
use Rattle.oc_model.specs.Space.{Part, is_better}
use Rattle.oc_free.specs.FreeParts.{AreFree, end_of}

-- no part
abbrev pub no_part : Part
no_part = record { address = 0; blocks = 0 }

abbrev pub part_at : List Part → ℕ → Part
part_at parts i = slice_index_or parts i no_part

abbrev pub is_part : Part → Part → Bool
is_part p q = (p.address == q.address) && (p.blocks == q.blocks)

-- the first part is the smaller one, or as large and before the other
abbrev pub RanksBefore : Part → Part → Type 0
RanksBefore p q = is_better p q ≡ true

-- both lists have the same parts, each in its order
pub record AreOrdered (by_address by_size : List Part) : Type 0 where
  pub free : AreFree by_address
  pub ranked : AllPairs RanksBefore by_size
  pub same : (p : Part) → count_by (is_part p) by_size ≡ count_by (is_part p) by_address

-- the parts before the place have smaller addresses than this, and those from it on have none smaller
pub record IsPlaceOf (address : ℕ) (parts : List Part) (place : ℕ) : Type 0 where
  pub within : place ≤ length parts
  pub before : (k : ℕ) → k < place → (part_at parts k).address < address
  pub after : (k : ℕ) → place ≤ k → k < length parts → address ≤ (part_at parts k).address

-- the parts before the place rank before this one, and those from it on don't
pub record IsRankOf (p : Part) (parts : List Part) (place : ℕ) : Type 0 where
  pub within : place ≤ length parts
  pub before : (k : ℕ) → k < place → is_better (part_at parts k) p ≡ true
  pub after : (k : ℕ) → place ≤ k → k < length parts → is_better (part_at parts k) p ≡ false

-- the parts before the place are smaller than the need, and those from it on hold it
pub record IsFirstFit (need : ℕ) (parts : List Part) (place : ℕ) : Type 0 where
  pub within : place ≤ length parts
  pub before : (k : ℕ) → k < place → (part_at parts k).blocks < need
  pub after : (k : ℕ) → place ≤ k → k < length parts → need ≤ (part_at parts k).blocks

-- the part lies between the parts before this place and those from it on
pub record IsGapFor (p : Part) (parts : List Part) (place : ℕ) : Type 0 where
  pub within : place ≤ length parts
  pub before : (k : ℕ) → k < place → end_of (part_at parts k) ≤ p.address
  pub after : (k : ℕ) → place ≤ k → k < length parts → end_of p ≤ (part_at parts k).address

-- and touches none of those before it
abbrev pub IsApartBefore : Part → List Part → ℕ → Type 0
IsApartBefore p parts place = (k : ℕ) → k < place → end_of (part_at parts k) < p.address

-- nor any of those behind it
abbrev pub IsApartAfter : Part → List Part → ℕ → Type 0
IsApartAfter p parts place = (k : ℕ) → place ≤ k → k < length parts → end_of p < (part_at parts k).address
