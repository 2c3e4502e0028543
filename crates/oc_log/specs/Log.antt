-- What an image stands for, with an open log put in.
use Rattle.std.specs.Prelude.{◌⊎◌, ◌≤◌, ℕ, ◌+◌, ◌-◌, ◌*◌, ◌==◌, ◌&&◌, nat_le, if◌then◌else◌, List, [], ◌∷◌, ◌++◌, length, take, drop, slice_index, replicate, Option, Some, None}
use Rattle.oc_layout.specs.declared.cells.Cell.{Cell}
use Rattle.oc_layout.specs.declared.cells.CellWrite.{CellWrite}
use Rattle.oc_layout.specs.declared.cells.Header.{Header}
use Rattle.oc_layout.specs.Layout.{is_wide, unit_of, cell_bytes, first_cell, log_bytes, read_writes}
use Rattle.oc_host.specs.Disk.{Apart, over}

-- n bytes of b from `at` on
abbrev pub slice : ℕ → ℕ → List ℕ → List ℕ
slice at n b = take n (drop at b)

-- b with each of these cells at its target
abbrev pub put_cells : List CellWrite → List ℕ → List ℕ
put_cells [] b = b
put_cells (w ∷ ws) b = put_cells ws (over w.target (cell_bytes w.cell) b)

-- the log's first byte
abbrev pub log_at : Header → ℕ
log_at h = h.log.at * unit_of h

-- The writes of an open log, if the image has one. The header gives the form and the size of a block. The image gives the gate, the log cell
-- and the log, which lies in the image.
unfoldable pub open_writes : Header → List ℕ → Option (List CellWrite)
open_writes h b =
    let place = first_cell (slice 32 8 b) in
    let at = place.at * unit_of h in
    if (slice_index b 64 == 1) && nat_le (at + place.len) (length b) then read_writes (is_wide h) (slice at place.len b) else None

abbrev pub put_found : Option (List CellWrite) → List ℕ → List ℕ
put_found None b = b
put_found (Some ws) b = put_cells ws b

-- the image with an open log put in
abbrev pub settled : Header → List ℕ → List ℕ
settled h b = put_found (open_writes h b) b

-- the header with another place for the log
abbrev pub with_log : Header → Cell → Header
with_log h place = record h { log = place }

-- b with zeros behind it, up to the byte `at`
abbrev pub padded : ℕ → List ℕ → List ℕ
padded at b = b ++ replicate (at - length b) 0

-- b with a log of these writes, and with its place in the log cell
abbrev pub staged : Header → List CellWrite → List ℕ → List ℕ
staged h ws b = over 32 (cell_bytes h.log) (over (log_at h) (log_bytes (is_wide h) ws) (padded (log_at h) b))

-- ---- where the cells of a log may stand

-- the place k is in none of the targets' cells
abbrev pub AllApart : ℕ → List CellWrite → Type 0
AllApart k [] = Unit {0}
AllApart k (w ∷ ws) = Apart k w.target 8 × AllApart k ws

-- each of the cells lies within the first `len` bytes
abbrev pub AllWithin : ℕ → List CellWrite → Type 0
AllWithin len [] = Unit {0}
AllWithin len (w ∷ ws) = (w.target + 8 ≤ len) × AllWithin len ws

-- none of the cells touches the n bytes from `at` on
abbrev pub AllClear : ℕ → ℕ → List CellWrite → Type 0
AllClear at n [] = Unit {0}
AllClear at n (w ∷ ws) = ((w.target + 8 ≤ at) ⊎ (at + n ≤ w.target)) × AllClear at n ws

-- the cells lie in a file of `len` bytes, outside the gate, the log cell and the log
pub record AreTargets (h : Header) (len : ℕ) (ws : List CellWrite) : Type 0 where
  pub within : AllWithin len ws
  pub gate : AllClear 64 1 ws
  pub cell : AllClear 32 8 ws
  pub place : AllClear (log_at h) h.log.len ws

-- the place k is outside the log, the log cell and the gate
abbrev pub Clear : Header → ℕ → Type 0
Clear h k = Apart k (log_at h) h.log.len × Apart k 32 8 × Apart k 64 1
