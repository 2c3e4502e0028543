-- The bytes of a cell and of a log, and how they are read again.
use Rattle.std.specs.Prelude.{◌≡◌, ◌<◌, ◌^◌, ◌+◌, ◌-◌, ◌*◌, ◌/◌, ℕ, zero, suc, ◌==◌, ◌&&◌, nat_lt, Bool, true, false, if◌then◌else◌, IsTrue, List, [], ◌∷◌, ◌++◌, length, drop, Option, Some, None, All}
use Rattle.std.specs.Int.{w32, w64, to_be_bytes, from_be_bytes}
use Rattle.oc_layout.specs.declared.cells.Cell.{Cell}
use Rattle.oc_layout.specs.declared.cells.CellWrite.{CellWrite}
use Rattle.oc_layout.specs.declared.cells.Header.{Header}

-- What a header's form decides.

-- block form, whose logs have targets of eight bytes
abbrev pub is_wide : Header → Bool
is_wide h = h.form == 2

-- the bytes in a block
abbrev pub unit_of : Header → ℕ
unit_of h = if h.form == 2 then h.block else 1

-- the greatest length of the file, in blocks
abbrev pub room_of : Header → ℕ
room_of h = if h.form == 2 then h.block_limit else h.limit

abbrev pub first_page_of : Header → Cell
first_page_of h = if h.form == 2 then h.block_root else h.root

-- the blocks that n bytes take, of `unit` bytes each
abbrev pub blocks : ℕ → ℕ → ℕ
blocks unit n = (n + unit - 1) / unit

-- A cell: its place and its length.

abbrev pub cell_bytes : Cell → List ℕ
cell_bytes c = to_be_bytes w32 c.at ++ to_be_bytes w32 c.len

-- its numbers have 32 bits
pub record FitsCell (c : Cell) : Type 0 where
  pub at : c.at < 2 ^ 32
  pub len : c.len < 2 ^ 32

pub record SpellsCell (c : Cell) (b : List ℕ) : Type 0 where
  pub fits : FitsCell c
  pub bytes : b ≡ cell_bytes c

-- A log: the count of its writes, then each with its target and its cell.

abbrev pub target_bytes : Bool → ℕ → List ℕ
target_bytes true target = to_be_bytes w64 target
target_bytes false target = to_be_bytes w32 target

abbrev pub write_bytes : Bool → CellWrite → List ℕ
write_bytes wide w = target_bytes wide w.target ++ cell_bytes w.cell

abbrev pub write_len : Bool → ℕ
write_len true = 16
write_len false = 12

abbrev pub writes_bytes : Bool → List CellWrite → List ℕ
writes_bytes wide [] = []
writes_bytes wide (w ∷ ws) = write_bytes wide w ++ writes_bytes wide ws

abbrev pub log_bytes : Bool → List CellWrite → List ℕ
log_bytes wide ws = to_be_bytes w32 (length ws) ++ writes_bytes wide ws

-- the next target, if there is one, is greater
abbrev pub is_below : ℕ → List CellWrite → Bool
is_below target [] = true
is_below target (w ∷ ws) = nat_lt target w.target

-- each target is less than the next
abbrev pub is_ascending : List CellWrite → Bool
is_ascending [] = true
is_ascending (w ∷ ws) = is_below w.target ws && is_ascending ws

-- the first target that has no bytes
abbrev pub target_end : Bool → ℕ
target_end true = 2 ^ 64
target_end false = 2 ^ 32

-- its numbers have as many bits as they have room
pub record FitsWrite (wide : Bool) (w : CellWrite) : Type 0 where
  pub target : w.target < target_end wide
  pub cell : FitsCell w.cell

-- these writes can stand in one log
pub record IsLog (wide : Bool) (ws : List CellWrite) : Type 0 where
  pub some : 0 < length ws
  pub few : length ws < 2 ^ 32
  pub ascending : IsTrue (is_ascending ws)
  pub fits : All (FitsWrite wide) ws

pub record SpellsLog (wide : Bool) (ws : List CellWrite) (b : List ℕ) : Type 0 where
  pub is : IsLog wide ws
  pub bytes : b ≡ log_bytes wide ws

-- Reading, from the front of a list.

abbrev pub first_cell : List ℕ → Cell
first_cell b = record { at = from_be_bytes w32 b; len = from_be_bytes w32 (drop 4 b) }

abbrev pub first_write : Bool → List ℕ → CellWrite
first_write true b = record { target = from_be_bytes w64 b; cell = first_cell (drop 8 b) }
first_write false b = record { target = from_be_bytes w32 b; cell = first_cell (drop 4 b) }

-- that many writes from the front
abbrev pub first_writes : Bool → ℕ → List ℕ → List CellWrite
first_writes wide zero b = []
first_writes wide (suc n) b = first_write wide b ∷ first_writes wide n (drop (write_len wide) b)

-- the writes of a log, if the bytes are one
unfoldable pub read_writes : Bool → List ℕ → Option (List CellWrite)
read_writes wide b =
    let n = from_be_bytes w32 b in
    let ws = first_writes wide n (drop 4 b) in
    if nat_lt 0 n && (length b == 4 + write_len wide * n) && is_ascending ws then Some ws else None
