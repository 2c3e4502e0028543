-- Bytes that are written one after another.
use Rattle.std.specs.Prelude.{◌≡◌, ◌⊎◌, ◌≤◌, ℕ, ◌+◌, ◌-◌, ◌*◌, ◌==◌, nat_lt, max, if◌then◌else◌, List, [], ◌∷◌, ◌++◌, length, map, replicate, Option, Some, None, All}
use Rattle.oc_layout.specs.declared.cells.Cell.{Cell}
use Rattle.oc_layout.specs.Layout.{blocks}
use Rattle.oc_host.specs.Disk.{over}
use Rattle.oc_slots.specs.declared.placed.Slot.{Slot}
use Rattle.oc_slots.specs.declared.run.Run.{Run}
use Rattle.oc_slots.specs.declared.run.Planned.{Planned}
use Rattle.oc_slots.specs.Held.{IsBeside}

-- these bytes from `at` on
pub record Piece : Type 0 where
  pub at : ℕ
  pub bytes : List ℕ

-- the runs as pieces
abbrev pub as_pieces : List Run → List Piece
as_pieces runs = map (λ r. record { at = r.at; bytes = r.bytes.items }) runs

-- b with each of the pieces written
abbrev pub over_all : List Piece → List ℕ → List ℕ
over_all [] b = b
over_all (p ∷ ps) b = over_all ps (over p.at p.bytes b)

-- each piece begins in what it is written over, or at its end
abbrev pub Fit : List Piece → List ℕ → Type 0
Fit [] b = Unit {0}
Fit (p ∷ ps) b = (p.at ≤ length b) × Fit ps (over p.at p.bytes b)

-- the thing has none of the pieces' bytes
abbrev pub AreBeside : ℕ → Cell → List Piece → Type 0
AreBeside unit thing pieces = All (λ p. IsBeside unit p.at (length p.bytes) thing) pieces

-- none of the pieces ends behind this byte
abbrev pub AreWithin : ℕ → List Piece → Type 0
AreWithin end pieces = All (λ p. p.at + length p.bytes ≤ end) pieces

-- The runs write what the pieces write, and no other bytes.
pub record AreJoined (pieces runs : List Piece) : Type 0 where
  pub same : (b : List ℕ) → Fit pieces b → (over_all runs b ≡ over_all pieces b) × Fit runs b
  pub beside : (unit : ℕ) (thing : Cell) → 1 ≤ thing.len → AreBeside unit thing pieces → AreBeside unit thing runs
  pub within : (end : ℕ) → AreWithin end pieces → AreWithin end runs

-- The run is the last of the old ones and ends at this byte, and the new ones are the others; or it is empty and begins there, and they are the old ones.
abbrev pub EndsAt : ℕ → Run → List Run → List Run → Type 0
EndsAt at run old new =
    ((old ≡ new ++ run ∷ []) × (run.at + length run.bytes.items ≡ at))
    ⊎ ((new ≡ old) × (run.at ≡ at) × (run.bytes.items ≡ []))

-- the first byte that is written for a slot at this cell, behind this one, in a file of `len` bytes: the end of the file where the slot
-- begins behind it, and that of the cell before where the slot begins in the next block
abbrev pub from : ℕ → ℕ → Option Cell → Cell → ℕ
from unit len None c = if nat_lt len (c.at * unit) then len else c.at * unit
from unit len (Some p) c =
    if nat_lt len (c.at * unit) then len else (if p.at + blocks unit p.len == c.at then p.at * unit + p.len else c.at * unit)

-- the first byte behind a slot
abbrev pub end_of : ℕ → Slot → ℕ
end_of unit s = s.cell.at * unit + length s.bytes

-- the bytes that are written for a slot, with zeros before them where they begin before it
abbrev pub piece_of : ℕ → ℕ → Option Cell → Slot → Piece
piece_of unit len before s =
    let at = from unit len before s.cell in record { at = at; bytes = replicate (s.cell.at * unit - at) 0 ++ s.bytes }

-- the pieces of these slots, in a file of `len` bytes and behind this cell
abbrev pub pieces_of : ℕ → ℕ → Option Cell → List Slot → List Piece
pieces_of unit len before [] = []
pieces_of unit len before (s ∷ ss) = piece_of unit len before s ∷ pieces_of unit (max len (end_of unit s)) (Some s.cell) ss

-- the length of the file when these slots are written
abbrev pub end_after : ℕ → ℕ → List Slot → ℕ
end_after unit len [] = len
end_after unit len (s ∷ ss) = end_after unit (max len (end_of unit s)) ss

-- the cell of the last of these slots, or this one where there is none
abbrev pub last_after : Option Cell → List Slot → Option Cell
last_after before [] = before
last_after before (s ∷ ss) = last_after (Some s.cell) ss

-- These slots are planned for a file of `len` bytes.
pub record IsPlanned (unit len : ℕ) (slots : List Slot) (planned : Planned) : Type 0 where
  pub runs : AreJoined (pieces_of unit len None slots) (as_pieces planned.runs.items)
  pub end : planned.end ≡ end_after unit len slots
  pub before : planned.before ≡ last_after None slots

-- the two share no block
abbrev pub ShareNone : ℕ → Cell → Cell → Type 0
ShareNone unit a b = (a.at + blocks unit a.len ≤ b.at) ⊎ (b.at + blocks unit b.len ≤ a.at)
