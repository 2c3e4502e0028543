-- What a stop in the calls on a log leaves. Each image is read with an open log put in, and outside the log, the log cell and the gate.
use Rattle.std.specs.Prelude.{◌≡◌, ◌≢◌, ◌⊎◌, ◌<◌, ◌≤◌, ℕ, ◌+◌, max, List, length, slice_index, Some}
use Rattle.oc_layout.specs.declared.cells.CellWrite.{CellWrite}
use Rattle.oc_layout.specs.declared.cells.Header.{Header}
use Rattle.oc_host.specs.Disk.{Disk, Fixed}
use Rattle.oc_log.specs.Log.{put_cells, log_at, open_writes, settled, Clear}
use Rattle.oc_log.specs.States.{HasLog}

-- None of the cells is put in: the gate is closed, and the image reads as the file did, except where that was pending.
pub record HasNone (h : Header) (d : Disk) (image said : List ℕ) : Type 0 where
  pub told : said ≡ d.said
  pub closed : slice_index image 64 ≢ 1
  pub no_shorter : length d.synced ≤ length (settled h image)
  pub no_longer : length (settled h image) ≤ max d.top (log_at h + h.log.len)
  pub same : (k : ℕ) → Fixed d k → Clear h k → slice_index (settled h image) k ≡ slice_index d.bytes k

-- All cells are put in: elsewhere the image reads as the file did, what was pending included. Where the gate is open the log is there.
pub record HasAll (h : Header) (ws : List CellWrite) (d : Disk) (image said : List ℕ) : Type 0 where
  pub told : said ≡ d.said
  pub size : length (settled h image) ≡ max (length d.bytes) (log_at h + h.log.len)
  pub same : (k : ℕ) → k < length d.bytes → Clear h k → slice_index (settled h image) k ≡ slice_index (put_cells ws d.bytes) k
  pub log : slice_index image 64 ≡ 1 → HasLog h ws image

abbrev pub NoneOrAll : Header → List CellWrite → Disk → List ℕ → List ℕ → Type 0
NoneOrAll h ws d image said = HasNone h d image said ⊎ HasAll h ws d image said

-- The image reads as the file did with its open log put in. Where the gate is open that log is there.
pub record Recovers (h : Header) (d : Disk) (image said : List ℕ) : Type 0 where
  pub told : said ≡ d.said
  pub size : length (settled h image) ≡ length (settled h d.bytes)
  pub same : (k : ℕ) → Clear h k → slice_index (settled h image) k ≡ slice_index (settled h d.bytes) k
  pub log : (ws : List CellWrite) → open_writes h d.bytes ≡ Some ws → slice_index image 64 ≡ 1 → HasLog h ws image
