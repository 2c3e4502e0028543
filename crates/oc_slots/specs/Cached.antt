-- Slots that are kept: their places with their bytes, the most recently fetched first.
use Rattle.std.specs.Prelude.{◌≡◌, ◌≤◌, ◌↔◌, ℕ, ◌==◌, ◌&&◌, not, Bool, IsTrue, List, [], ◌∷◌, length, take, filter, All}
use Rattle.std.specs.List.{list_any, IsDistinct}
use Rattle.std.specs.Map.{keys_of}
use Rattle.lru.specs.LruCache.{LruCache}
use Rattle.oc_layout.specs.declared.cells.Cell.{Cell}

-- places with the bytes that were read there
abbrev pub Cached : Type 0
Cached = List (Cell × List ℕ)

abbrev pub is_cell : Cell → Cell → Bool
is_cell a b = a.at == b.at && a.len == b.len

-- the cell is one of these
abbrev pub is_among : List Cell → Cell → Bool
is_among cells c = list_any (λ x. is_cell x c) cells

-- what is kept without these places
abbrev pub without : List Cell → Cached → Cached
without cells es = filter (λ e. not (is_among cells e.0)) es

-- what is kept with this slot first; what then stands past 256 has gone
abbrev pub with_first : Cell → List ℕ → Cached → Cached
with_first cell bytes es = take 256 ((cell, bytes) ∷ without (cell ∷ []) es)

-- the cells with this one first, and the others in their order; what then stands past 256 has gone
abbrev pub first_of : Cell → List Cell → List Cell
first_of cell cells = take 256 (cell ∷ filter (λ c. not (is_cell cell c)) cells)

-- The new cells are just those of the old ones of which P holds, in their order.
pub record AreThose (P : Cell → Type 0) (old new : List Cell) : Type 0 where
  pub test : Cell → Bool
  pub are : new ≡ filter test old
  pub holds : All (λ c. IsTrue (test c) ↔ P c) old

-- There are at most 256 slots, and no place twice.
pub record IsCache (c : LruCache Cell (List ℕ)) : Type 0 where
  pub most : c.cap ≡ 256
  pub few : length c.entries ≤ 256
  pub distinct : IsDistinct is_cell (keys_of c.entries)
