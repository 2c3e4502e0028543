-- The states of a disk between the calls on a log.
use Rattle.std.specs.Prelude.{◌≡◌, ◌≢◌, ◌≤◌, ℕ, ◌+◌, List, length, slice_index, Some}
use Rattle.oc_layout.specs.declared.cells.CellWrite.{CellWrite}
use Rattle.oc_layout.specs.declared.cells.Header.{Header}
use Rattle.oc_layout.specs.Layout.{is_wide, unit_of, blocks, first_cell, read_writes}
use Rattle.oc_host.specs.Disk.{Disk, Fixed, IsSynced}
use Rattle.oc_log.specs.Log.{slice, put_cells, log_at, open_writes, AreTargets}

-- the gate is closed and synced, the log begins behind the header and no later than the first block behind the file, and the cells lie in the file
pub record MayPrepare (h : Header) (ws : List CellWrite) (d : Disk) : Type 0 where
  pub long : 128 ≤ length d.bytes
  pub closed : slice_index d.bytes 64 ≢ 1
  pub gate : Fixed d 64
  pub behind : 128 ≤ log_at h
  pub begins : h.log.at ≤ blocks (unit_of h) (length d.bytes)
  pub targets : AreTargets h (length d.bytes) ws

-- the file has a log of these writes at the header's place, whether or not the gate is open
pub record HasLog (h : Header) (ws : List CellWrite) (b : List ℕ) : Type 0 where
  pub long : 128 ≤ length b
  pub cell : first_cell (slice 32 8 b) ≡ h.log
  pub inside : log_at h + h.log.len ≤ length b
  pub log : read_writes (is_wide h) (slice (log_at h) h.log.len b) ≡ Some ws
  pub targets : AreTargets h (length b) ws

-- the log is synced behind a closed gate
pub record IsPrepared (h : Header) (ws : List CellWrite) (d : Disk) : Type 0 where
  pub synced : IsSynced d
  pub gate : slice_index d.bytes 64 ≢ 1
  pub has : HasLog h ws d.bytes
  pub behind : 128 ≤ log_at h

-- the gate is open
pub record IsOpened (h : Header) (ws : List CellWrite) (d : Disk) : Type 0 where
  pub synced : IsSynced d
  pub gate : slice_index d.bytes 64 ≡ 1
  pub has : HasLog h ws d.bytes

-- the gate is open, and to put the cells in changes nothing
pub record IsApplied (h : Header) (ws : List CellWrite) (d : Disk) : Type 0 where
  pub synced : IsSynced d
  pub gate : slice_index d.bytes 64 ≡ 1
  pub has : HasLog h ws d.bytes
  pub done : (k : ℕ) → slice_index (put_cells ws d.bytes) k ≡ slice_index d.bytes k

-- The header's gate and log cell are those of the file, nothing is pending, and the cells of an open log lie in the file.
pub record MayRecover (h : Header) (d : Disk) : Type 0 where
  pub synced : IsSynced d
  pub long : 128 ≤ length d.bytes
  pub gate : slice_index d.bytes 64 ≡ h.gate
  pub cell : first_cell (slice 32 8 d.bytes) ≡ h.log
  pub targets : (ws : List CellWrite) → open_writes h d.bytes ≡ Some ws → AreTargets h (length d.bytes) ws
