-- What a file holds of the committed side between two calls, and that no stop takes away.
use Rattle.std.specs.Prelude.{◌≢◌, ◌⊎◌, ◌<◌, ◌≤◌, ℕ, ◌+◌, ◌*◌, List, ◌∷◌, length, All}
use Rattle.oc_layout.specs.declared.cells.Cell.{Cell}
use Rattle.oc_layout.specs.declared.cells.Header.{Header}
use Rattle.oc_layout.specs.Layout.{unit_of, room_of, first_page_of, blocks}
use Rattle.oc_host.specs.Disk.{Disk, Fixed, IsDisk}
use Rattle.oc_pages.specs.declared.page.Page.{Page}
use Rattle.oc_pages.specs.Pages.{pointer_of, things_of}
use Rattle.oc_pages.specs.Chains.{HasPages}
use Rattle.oc_room.specs.Rooms.{owners}
use Rattle.oc_slots.specs.Maps.{SlotMap, content}
use Rattle.oc_slots.specs.Forms.{Begins, LiesIn, header_cell}

-- whatever a stop leaves, the thing's bytes are those that were synced
abbrev pub IsHeld : ℕ → Disk → Cell → Type 0
IsHeld unit d thing = (k : ℕ) → thing.at * unit ≤ k → k < thing.at * unit + thing.len → Fixed d k

-- the thing has none of the n bytes from `at` on
abbrev pub IsBeside : ℕ → ℕ → ℕ → Cell → Type 0
IsBeside unit at n thing = (thing.at * unit + thing.len ≤ at) ⊎ (at + n ≤ thing.at * unit)

-- The file begins with this header, whose gate is closed, and has these pages. They and their slots lie in it, no block is in two of them, and no stop takes a byte of them away.
pub record Holds (h : Header) (pages : List Page) (d : Disk) : Type 0 where
  pub disk : IsDisk d
  pub header : Begins h d.bytes
  pub closed : h.gate ≢ 1
  pub room : blocks (unit_of h) d.top ≤ room_of h
  pub chain : HasPages (unit_of h) d.bytes (first_page_of h) pages
  pub inside : All (LiesIn (unit_of h) (length d.bytes)) (things_of pages)
  pub held : All (IsHeld (unit_of h) d) (header_cell ∷ things_of pages)
  pub apart : (k : ℕ) → owners (unit_of h) (header_cell ∷ things_of pages) k ≤ 1

-- the map of the slots that the pages name
abbrev pub map_of : Header → List Page → List ℕ → SlotMap
map_of h pages bytes id = content (unit_of h) bytes (pointer_of pages id.space id.number)
