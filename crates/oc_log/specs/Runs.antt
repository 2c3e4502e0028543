-- Cells that are written one behind another.
use Rattle.std.specs.Prelude.{◌≡◌, ℕ, ◌+◌, List, [], ◌∷◌, ◌++◌, length, slice_index}
use Rattle.oc_layout.specs.declared.cells.CellWrite.{CellWrite}
use Rattle.oc_layout.specs.Layout.{cell_bytes}
use Rattle.oc_host.specs.Disk.{Disk, Outside}
use Rattle.oc_log.specs.Log.{put_cells, AllApart}

-- the bytes of these cells
abbrev pub cells_bytes : List CellWrite → List ℕ
cells_bytes [] = []
cells_bytes (w ∷ ws) = cell_bytes w.cell ++ cells_bytes ws

-- the byte where the first cell stands
abbrev pub first_target : List CellWrite → ℕ
first_target [] = 0
first_target (w ∷ ws) = w.target

-- each cell stands where the one before ends, and the first at the byte `at`
abbrev pub Touch : ℕ → List CellWrite → Type 0
Touch at [] = Unit {0}
Touch at (w ∷ ws) = (w.target ≡ at) × Touch (at + 8) ws

-- While cells are written their bytes are open, and no others.
pub record Touched (ws : List CellWrite) (d : Disk) (image said : List ℕ) : Type 0 where
  pub told : said ≡ d.said
  pub size : length image ≡ length d.bytes
  pub same : (k : ℕ) → AllApart k ws → slice_index image k ≡ slice_index d.bytes k

-- After that the file has the cells, and nothing else is pending.
pub record IsPut (ws : List CellWrite) (old new : Disk) : Type 0 where
  pub bytes : new.bytes ≡ put_cells ws old.bytes
  pub said : new.said ≡ old.said
  pub synced : new.synced ≡ old.bytes
  pub top : new.top ≡ length old.bytes
  pub spans : (k : ℕ) → AllApart k ws → Outside k new.spans
