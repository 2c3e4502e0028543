-- The room of a file: the blocks that things own, the free parts, the end of the file and its limit. Addresses and the room's numbers count
-- blocks, the lengths of things bytes.
use Rattle.std.specs.Prelude.{◌≡◌, ◌⊎◌, true, ◌<◌, ◌≤◌, ℕ, ◌+◌, max, ◌&&◌, ◌||◌, nat_le, Bool, if◌then◌else◌, List, [], ◌∷◌, ◌++◌, length, All, Option, Some, None, is_some, fold, count_by}
use Rattle.oc_layout.specs.declared.cells.Cell.{Cell}
use Rattle.oc_layout.specs.Layout.{blocks}
use Rattle.oc_model.specs.Space.{Part, Shortage, best_fit, without}
use Rattle.oc_free.specs.FreeParts.{AreFree, has_block, free_at}

-- the blocks that a thing owns
abbrev pub part_of : ℕ → Cell → Part
part_of unit c = record { address = c.at; blocks = blocks unit c.len }

-- the thing owns the block k
abbrev pub owns : ℕ → ℕ → Cell → Bool
owns unit k c = has_block k (part_of unit c)

-- how many of the things own the block k
abbrev pub owners : ℕ → List Cell → ℕ → ℕ
owners unit things k = count_by (owns unit k) things

-- What contracts see of a room: the bytes in a block, the free parts, the blocks of the file, the most that it may have, and how many things
-- can be given back without memory.
pub record Space : Type 0 where
  pub unit : ℕ
  pub parts : List Part
  pub end : ℕ
  pub limit : ℕ
  pub spare : ℕ

-- What holds of every room: its free parts stand in order and within the file, and the file is no longer than its limit.
pub record IsRoom (s : Space) : Type 0 where
  pub free : AreFree s.parts
  pub within : (k : ℕ) → s.end ≤ k → free_at s.parts k ≡ 0
  pub unit : 0 < s.unit
  pub end : s.end ≤ s.limit
  pub limit : s.limit ≤ 2147483647

-- the block k may be given out: it is free or lies behind the file, 1, or it isn't, 0
abbrev pub open_at : Space → ℕ → ℕ
open_at s k = free_at s.parts k + (if nat_le s.end k then 1 else 0)

-- a cell can name so many bytes
abbrev pub is_nameable : ℕ → Bool
is_nameable len = nat_le len 4294967295

-- what has been placed, the free parts that are left, and the file's blocks with it
pub record Placed : Type 0 where
  pub cells : List Cell
  pub parts : List Part
  pub end : ℕ

-- nothing has been placed
abbrev pub unplaced : Space → Placed
unplaced s = record { cells = []; parts = s.parts; end = s.end }

-- so many bytes placed behind the others: in the front of this part, or where there is none at the end of the file
abbrev pub place_in : ℕ → ℕ → Placed → Option Part → Placed
place_in unit len p (Some part) =
    record { cells = p.cells ++ record { at = part.address; len = len } ∷ []; parts = without p.parts part.address (blocks unit len); end = p.end }
place_in unit len p None = record { cells = p.cells ++ record { at = p.end; len = len } ∷ []; parts = p.parts; end = p.end + blocks unit len }

-- so many bytes placed behind the others, in the part that fits them best
abbrev pub place_next : ℕ → Placed → ℕ → Placed
place_next unit p len = place_in unit len p (best_fit p.parts (blocks unit len))

-- these lengths placed one after another
abbrev pub placed : ℕ → Placed → List ℕ → Placed
placed unit p lens = fold (place_next unit) p lens

-- so many bytes find room: a cell can name them, and a part holds them or the file may grow by them
abbrev pub finds_room : ℕ → ℕ → Placed → ℕ → Bool
finds_room unit limit p len = is_nameable len && (is_some (best_fit p.parts (blocks unit len)) || nat_le (p.end + blocks unit len) limit)

-- the first of these lengths that finds no room when those before it are placed: the blocks that it needs, and those of the file before it
unfoldable pub lacking : ℕ → ℕ → Placed → List ℕ → Option Shortage
lacking unit limit p [] = None
lacking unit limit p (len ∷ lens) =
    if finds_room unit limit p len then lacking unit limit (place_next unit p len) lens else Some (record { need = blocks unit len; length = p.end })

-- Each block of the file is in exactly one of the things and the free parts, and no other block is.
pub record Tiles (s : Space) (things : List Cell) : Type 0 where
  pub each : (k : ℕ) → k < s.end → owners s.unit things k + free_at s.parts k ≡ 1
  pub none : (k : ℕ) → s.end ≤ k → owners s.unit things k + free_at s.parts k ≡ 0

-- no block is in two of the things, and none lies behind the end
abbrev pub AreApart : ℕ → ℕ → List Cell → Type 0
AreApart unit end things = (k : ℕ) → owners unit things k ≤ (if nat_le end k then 0 else 1)

-- the same free parts, end and limit
pub record IsSame (s t : Space) : Type 0 where
  pub unit : t.unit ≡ s.unit
  pub parts : t.parts ≡ s.parts
  pub end : t.end ≡ s.end
  pub limit : t.limit ≡ s.limit

-- the thing lies in blocks that are free, or begins at the end of the file
abbrev pub LiesIn : Space → Cell → Type 0
LiesIn s c = ((k : ℕ) → owns s.unit k c ≡ true → 1 ≤ free_at s.parts k) ⊎ (c.at ≡ s.end)

-- the thing ends where the file ended or before, or begins there or behind
abbrev pub LiesApart : ℕ → ℕ → Cell → Type 0
LiesApart unit end c = (c.at + blocks unit c.len ≤ end) ⊎ (end ≤ c.at)

-- The things can be given back, and the file can end at the block `to` again: none of them is empty or stands across `to`, no block before `to`
-- is in two of them or in one and free, no free block lies behind it, and there is memory to give each of them back.
pub record GoesBack (s : Space) (things : List Cell) (to : ℕ) : Type 0 where
  pub some : All (λ thing. 1 ≤ thing.len) things
  pub lies : All (LiesApart s.unit to) things
  pub apart : (k : ℕ) → k < to → free_at s.parts k + owners s.unit things k ≤ 1
  pub within : (k : ℕ) → to ≤ k → free_at s.parts k ≡ 0
  pub end : to ≤ s.end
  pub spare : length things ≤ s.spare

-- each of the cells begins no later than the file ended before it, and with the last of them it ends here
abbrev pub AreInOrder : ℕ → ℕ → List Cell → ℕ → Type 0
AreInOrder unit end [] last = last ≡ end
AreInOrder unit end (c ∷ cs) last = (c.at ≤ end) × AreInOrder unit (max end (c.at + blocks unit c.len)) cs last
