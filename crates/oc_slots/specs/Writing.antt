-- Writes beside what a file holds of its committed side.
use Rattle.std.specs.Prelude.{◌≡◌, ◌≤◌, ℕ, ◌+◌, List, ◌∷◌, length, All}
use Rattle.oc_layout.specs.declared.cells.Header.{Header}
use Rattle.oc_layout.specs.Layout.{unit_of, room_of, blocks}
use Rattle.oc_host.specs.Disk.{Disk}
use Rattle.oc_pages.specs.declared.page.Page.{Page}
use Rattle.oc_pages.specs.Pages.{things_of}
use Rattle.oc_slots.specs.Maps.{Same}
use Rattle.oc_slots.specs.Forms.{GivesFrom, header_cell}
use Rattle.oc_slots.specs.Held.{Holds, IsBeside, map_of}
use Rattle.oc_slots.specs.Pieces.{Piece}

-- the bytes lie beside the header, the pages and their slots, and in the room of the file
pub record IsFree (h : Header) (pages : List Page) (p : Piece) : Type 0 where
  pub room : blocks (unit_of h) (p.at + length p.bytes) ≤ room_of h
  pub beside : All (IsBeside (unit_of h) p.at (length p.bytes)) (header_cell ∷ things_of pages)

abbrev pub AreFree : Header → List Page → List Piece → Type 0
AreFree h pages pieces = All (IsFree h pages) pieces

-- what the file held of its committed side it holds still
pub record Keeps (h : Header) (pages : List Page) (old new : Disk) : Type 0 where
  pub holds : Holds h pages old → Holds h pages new
  pub same : Holds h pages old → Same (map_of h pages new.bytes) (map_of h pages old.bytes)
  pub said : new.said ≡ old.said

-- a stop leaves what was said, the map of the pages, and the header's first number
abbrev pub Before : Header → List Page → Disk → List ℕ → List ℕ → Type 0
Before h pages d image said = (said ≡ d.said) × GivesFrom h.first image (map_of h pages d.bytes)
