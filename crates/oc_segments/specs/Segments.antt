-- Which bytes are a segment.
use Rattle.std.specs.Prelude.{◌≡◌, ◌≤◌, ℕ, nat_le, ◌&&◌, Bool, true, IsTrue, List, [], ◌∷◌, length}
use Rattle.std.specs.List.{list_all}
use Rattle.std.specs.Ordering.{is_lt}
use Rattle.std.specs.declared.cmp.Ordering.{Ordering}
use Rattle.oc_chunks.specs.Ascending.{IsAscending}
use Rattle.oc_model.specs.Spelling.{segment_bytes}

-- 1 to 512 entries that pass the test, each below all that follow
pub record AreEntries {X : Type 0} (cmp : X → X → Ordering) (test : X → Bool) (entries : List X) : Type 0 where
  pub some : 1 ≤ length entries
  pub few : length entries ≤ 512
  pub each : IsTrue (list_all test entries)
  pub ascending : IsAscending cmp entries

-- the bytes are those of a segment of these entries, with nothing behind them
pub record SpellsSegment {X : Type 0} (cmp : X → X → Ordering) (test : X → Bool) (spell : X → List ℕ) (entries : List X) (b : List ℕ) : Type 0 where
  pub is : AreEntries cmp test entries
  pub bytes : b ≡ segment_bytes spell entries

-- ---- the parts of a segment

-- 1 to 512 entries make a segment
abbrev pub is_size : ℕ → Bool
is_size n = nat_le 1 n && nat_le n 512

-- the first entry, if there is one, is greater
abbrev pub is_below : {X : Type 0} → (X → X → Ordering) → X → List X → Bool
is_below cmp x [] = true
is_below cmp x (y ∷ ys) = is_lt (cmp x y)

-- each entry is less than the next
abbrev pub is_rising : {X : Type 0} → (X → X → Ordering) → List X → Bool
is_rising cmp [] = true
is_rising cmp (x ∷ xs) = is_below cmp x xs && is_rising cmp xs
