-- Which files are of the form, and the map that a file stands for.
use Rattle.std.specs.Prelude.{◌≡◌, ◌≢◌, ◌⊎◌, ◌<◌, ◌≤◌, ℕ, ◌+◌, ◌*◌, ◌==◌, if◌then◌else◌, true, List, [], ◌∷◌, ◌++◌, length, take, slice_index, All, Some}
use Rattle.oc_layout.specs.declared.cells.Cell.{Cell}
use Rattle.oc_layout.specs.declared.cells.CellWrite.{CellWrite}
use Rattle.oc_layout.specs.declared.cells.Header.{Header}
use Rattle.oc_layout.specs.declared.cells.Space.{Space}
use Rattle.oc_layout.specs.Layout.{unit_of, room_of, first_page_of, blocks}
use Rattle.oc_layout.specs.Headers.{opening_bytes, fields, is_in_range}
use Rattle.oc_host.specs.Disk.{Apart}
use Rattle.oc_log.specs.Log.{put_cells, log_at}
use Rattle.oc_log.specs.States.{HasLog}
use Rattle.oc_pages.specs.declared.page.Page.{Page}
use Rattle.oc_pages.specs.Pages.{target_of, pointer_of, things_of}
use Rattle.oc_pages.specs.Chains.{HasPages}
use Rattle.oc_room.specs.Rooms.{owners}
use Rattle.oc_slots.specs.declared.slot.SlotId.{SlotId}
use Rattle.oc_slots.specs.Maps.{SlotMap, content}

-- The image begins with this header: its fields are in range, and each byte that is in no field has its value.
pub record Begins (h : Header) (image : List ℕ) : Type 0 where
  pub long : 128 ≤ length image
  pub fields : h ≡ fields image
  pub in_range : is_in_range h ≡ true
  pub opening : take 8 image ≡ opening_bytes
  pub zeros : (k : ℕ) → 24 ≤ k → k < 32 → slice_index image k ≡ 0
  pub end_zeros : (k : ℕ) → 66 ≤ k → k < 128 → slice_index image k ≡ 0

-- the header's own bytes
abbrev pub header_cell : Cell
header_cell = record { at = 0; len = 128 }

-- These writes are to be put into the image: none where the gate is closed, and those of the log, which lies behind the header, where it is open.
abbrev pub ToPutIn : Header → List ℕ → List CellWrite → Type 0
ToPutIn h image ws = ((slice_index image 64 ≢ 1) × (ws ≡ [])) ⊎ ((slice_index image 64 ≡ 1) × (128 ≤ log_at h) × HasLog h ws image)

-- the log's place, where the gate is open
abbrev pub log_things : Header → List CellWrite → List Cell
log_things h [] = []
log_things h (w ∷ ws) = h.log ∷ []

-- the first byte of the root cell
abbrev pub root_place : Header → ℕ
root_place h = if h.form == 2 then 48 else 16

-- the byte is one of the header's, and neither of the log cell, nor of the root cell, nor the gate
abbrev pub IsOwn : Header → ℕ → Type 0
IsOwn h k = (k < 128) × Apart k 32 8 × Apart k 64 1 × Apart k (root_place h) 8

-- the byte is the root cell's first, or the first of a pointer's cell
abbrev pub IsTarget : Header → List Page → ℕ → Type 0
IsTarget h pages target = (target ≡ root_place h) ⊎ ((space : Space) × (number : ℕ) × (target_of (unit_of h) pages space number ≡ Some target))

-- the thing has bytes, which lie in a file of this length
pub record LiesIn (unit len : ℕ) (thing : Cell) : Type 0 where
  pub some : 1 ≤ thing.len
  pub inside : thing.at * unit + thing.len ≤ len

-- The image is of the form: its header, the writes of its open log, and the pages that it has with these put in. No block is in two of the header,
-- the log, the pages and the slots.
pub record HasForm (h : Header) (ws : List CellWrite) (pages : List Page) (image : List ℕ) : Type 0 where
  pub header : Begins h image
  pub room : blocks (unit_of h) (length image) ≤ room_of h
  pub log : ToPutIn h image ws
  pub chain : HasPages (unit_of h) (put_cells ws image) (first_page_of (fields (put_cells ws image))) pages
  pub inside : All (LiesIn (unit_of h) (length image)) (things_of pages)
  pub apart : (k : ℕ) → owners (unit_of h) (header_cell ∷ log_things h ws ++ things_of pages) k ≤ 1
  pub targets : All (λ w. IsTarget h pages w.target) ws

-- The image gives this map: it is of the form, and each slot has the bytes that its pointer names once the log is put in.
pub record Gives (image : List ℕ) (m : SlotMap) : Type 0 where
  pub header : Header
  pub writes : List CellWrite
  pub pages : List Page
  pub form : HasForm header writes pages image
  pub slots : (id : SlotId) → m id ≡ content (unit_of header) (put_cells writes image) (pointer_of pages id.space id.number)

-- The image gives this map, and its header has this number as that of the first object.
pub record GivesFrom (first : ℕ) (image : List ℕ) (m : SlotMap) : Type 0 where
  pub gives : Gives image m
  pub is_first : (gives.header).first ≡ first
