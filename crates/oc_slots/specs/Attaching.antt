-- What is judged of a file before it is attached, what is made of one, and what a stop meanwhile may leave.
use Rattle.std.specs.Prelude.{◌≡◌, ◌≢◌, ◌⊎◌, ◌≤◌, ℕ, ◌+◌, ◌==◌, Bool, if◌then◌else◌, IsTrue, List, [], ◌∷◌, ◌++◌, length, Option, Some, None, All, IfSome}
use Rattle.oc_layout.specs.declared.cells.CellWrite.{CellWrite}
use Rattle.oc_layout.specs.declared.cells.Header.{Header}
use Rattle.oc_layout.specs.Layout.{unit_of, room_of, is_wide, blocks, read_writes, FitsCell}
use Rattle.oc_host.specs.Disk.{Disk, over}
use Rattle.oc_log.specs.Log.{slice, log_at, put_cells}
use Rattle.oc_pages.specs.declared.page.Page.{Page}
use Rattle.oc_pages.specs.Pages.{no_cell, things_of}
use Rattle.oc_room.specs.Rooms.{owners}
use Rattle.oc_slots.specs.declared.slot.Making.{Making}
use Rattle.oc_slots.specs.Maps.{SlotMap}
use Rattle.oc_slots.specs.Forms.{Begins, HasForm, Gives, GivesFrom, LiesIn, IsTarget, header_cell, log_things, root_place}
use Rattle.oc_slots.specs.Stores.{Slots}

-- ---- what is made

-- The numbers suit a header.
pub record IsMaking (m : Making) : Type 0 where
  pub limit : (128 ≤ m.limit) × (m.limit ≤ 2147483647)
  pub first : (1 ≤ m.first) × (m.first ≤ 2147483646)
  pub block : IfSome m.block (λ b. (1 ≤ b) × (b ≤ 127))

-- the header of a container of format 1 without slots
abbrev pub plain_header : ℕ → ℕ → Header
plain_header limit first = record {
  limit = limit;
  first = first;
  root = no_cell;
  log = no_cell;
  gate = 0;
  block = 0;
  block_limit = 0;
  block_root = no_cell;
  spare = no_cell;
  form = 0;
}

-- the header with blocks of so many bytes, if there are any
abbrev pub with_blocks : Option ℕ → Header → Header
with_blocks None h = h
with_blocks (Some b) h = record h { block = b; block_limit = h.limit; form = 2 }

-- the header that is made
abbrev pub made_header : Making → Header
made_header m = with_blocks m.block (plain_header m.limit m.first)

-- The file may be made a container: it is empty, or it is to be made anew, is short and gives no map.
abbrev pub MayBeMade : Bool → List ℕ → Type 0
MayBeMade anew b = (length b ≡ 0) ⊎ (IsTrue anew × (length b ≤ 128) × ((m : SlotMap) → Gives b m → ⊥))

-- What a stop may leave once the file is synced. What was said stays, and each map that the file gave is given still, with the header's first
-- number. A file that may be made has at most 128 bytes, and one that gives no map and may not be made stays as it is.
pub record MayLeave (anew : Bool) (d : Disk) (image said : List ℕ) : Type 0 where
  pub told : said ≡ d.said
  pub gives : (first : ℕ) (m : SlotMap) → GivesFrom first d.bytes m → GivesFrom first image m
  pub short : MayBeMade anew d.bytes → length image ≤ 128
  pub stays : ((m : SlotMap) → Gives d.bytes m → ⊥) → (MayBeMade anew d.bytes → ⊥) → image ≡ d.bytes

-- the bytes of the log, where it is open
abbrev pub open_len : Header → ℕ
open_len h = if h.gate == 1 then h.log.len else 0

-- ---- what is judged of a file's front

-- The gate is open, and the log lies in the file behind the header and is read as these writes.
pub record HasOpenLog (h : Header) (b : List ℕ) (ws : List CellWrite) : Type 0 where
  pub gate : h.gate ≡ 1
  pub behind : 128 ≤ log_at h
  pub inside : log_at h + h.log.len ≤ length b
  pub reads : read_writes (is_wide h) (slice (log_at h) h.log.len b) ≡ Some ws

-- there are no writes behind a closed gate, and those of the log behind an open one
abbrev pub ReadsLog : Header → List ℕ → List CellWrite → Type 0
ReadsLog h b ws = ((h.gate ≢ 1) × (ws ≡ [])) ⊎ HasOpenLog h b ws

-- the cell is the root cell, or it lies behind the header and within `len` bytes
abbrev pub SuitsTarget : Header → ℕ → CellWrite → Type 0
SuitsTarget h len w = (w.target ≡ root_place h) ⊎ ((128 ≤ w.target) × (w.target + 8 ≤ len))

-- The file begins with this header, has room, and has these writes to be put in, none of which touches the header but for its root cell.
pub record HasFront (h : Header) (ws : List CellWrite) (b : List ℕ) : Type 0 where
  pub header : Begins h b
  pub room : blocks (unit_of h) (length b) ≤ room_of h
  pub log : ReadsLog h b ws
  pub suit : All (SuitsTarget h (length b)) ws

-- the header with this write put in, if it is the root cell's
abbrev pub with_cell : Header → CellWrite → Header
with_cell h w = if w.target == root_place h then (if h.form == 2 then record h { block_root = w.cell } else record h { root = w.cell }) else h

-- the header with these writes put in
abbrev pub with_cells : Header → List CellWrite → Header
with_cells h [] = h
with_cells h (w ∷ ws) = with_cells (with_cell h w) ws

-- the header with a closed gate
abbrev pub with_closed : Header → Header
with_closed h = if h.gate == 1 then record h { gate = 0 } else h

-- ---- what is judged of its things

-- The pages and their slots lie within `len` bytes, no block is in two of the header, the log and these, and each write is put where a cell may stand.
pub record HasThings (h : Header) (ws : List CellWrite) (pages : List Page) (len : ℕ) : Type 0 where
  pub inside : All (LiesIn (unit_of h) len) (things_of pages)
  pub apart : (k : ℕ) → owners (unit_of h) (header_cell ∷ log_things h ws ++ things_of pages) k ≤ 1
  pub targets : All (λ w. IsTarget h pages w.target) ws

-- the writes without the first one, if that is put at the root cell
abbrev pub IsBehindRoot : Header → List CellWrite → List CellWrite → Type 0
IsBehindRoot h [] rest = rest ≡ []
IsBehindRoot h (w ∷ ws) rest = ((w.target ≡ root_place h) × (rest ≡ ws)) ⊎ ((w.target ≢ root_place h) × (rest ≡ w ∷ ws))

-- The file is of the form, and the store is what it gives once the writes are put in, with a closed gate and nothing changed.
pub record IsJudged (h : Header) (ws : List CellWrite) (s : Slots) (b : List ℕ) : Type 0 where
  pub form : HasForm h ws s.pages b
  pub some : h.gate ≡ 1 → 1 ≤ length ws
  pub log : All (LiesIn (unit_of h) (length b)) (log_things h ws)
  pub fits : All (λ w. FitsCell w.cell) ws
  pub header : s.header ≡ with_closed (with_cells h ws)
  pub len : s.len ≡ length b
  pub objects : s.objects ≡ []
  pub system : s.system ≡ []

-- The file was of the form and is attached: the store has its pages and its header with the writes put in, and the file the old bytes, where a log was
-- open with the writes put in and the gate closed.
pub record IsFound (h : Header) (ws : List CellWrite) (ps : List Page) (s : Slots) (old new : List ℕ) : Type 0 where
  pub header : s.header ≡ with_closed (with_cells h ws)
  pub pages : s.pages ≡ ps
  pub bytes : new ≡ (if h.gate == 1 then over 64 (0 ∷ []) (put_cells ws old) else old)

-- A stop leaves what was said, and a file that gives each map that the file gave, with the header's first number.
pub record StillGives (d : Disk) (image said : List ℕ) : Type 0 where
  pub told : said ≡ d.said
  pub gives : (first : ℕ) (m : SlotMap) → GivesFrom first d.bytes m → GivesFrom first image m

-- A stop leaves what was said, and a file of at most 128 bytes.
pub record StaysShort (d : Disk) (image said : List ℕ) : Type 0 where
  pub told : said ≡ d.said
  pub short : length image ≤ 128

-- The store has no slot, and the header that is to be made, and the file has no more than that.
pub record IsMade (m : Making) (s : Slots) (d : Disk) : Type 0 where
  pub header : s.header ≡ made_header m
  pub pages : s.pages ≡ []
  pub len : length d.bytes ≡ 128
