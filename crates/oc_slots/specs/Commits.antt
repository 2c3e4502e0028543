-- What a commit puts in by its log.
use Rattle.std.specs.Prelude.{◌≡◌, ◌⊎◌, ◌≤◌, ℕ, ◌+◌, max, List, ◌∷◌, length, All}
use Rattle.oc_layout.specs.declared.cells.Cell.{Cell}
use Rattle.oc_layout.specs.declared.cells.CellWrite.{CellWrite}
use Rattle.oc_layout.specs.declared.cells.Header.{Header}
use Rattle.oc_layout.specs.Layout.{unit_of, room_of, first_page_of, blocks}
use Rattle.oc_layout.specs.Headers.{fields}
use Rattle.oc_host.specs.Disk.{Disk}
use Rattle.oc_log.specs.Log.{with_log, put_cells, log_at, AllApart, AreTargets}
use Rattle.oc_pages.specs.declared.page.Page.{Page}
use Rattle.oc_pages.specs.Pages.{things_of}
use Rattle.oc_pages.specs.Chains.{HasPages}
use Rattle.oc_room.specs.Rooms.{owners}
use Rattle.oc_slots.specs.declared.slot.SlotChange.{SlotChange}
use Rattle.oc_slots.specs.Forms.{LiesIn, IsTarget, IsOwn, GivesFrom, header_cell}
use Rattle.oc_slots.specs.Maps.{changed}
use Rattle.oc_slots.specs.Stores.{Slots, committed, session}

-- These cells make of the old pages the new ones, by a log at this place. The log lies apart from the header and the things of both, and each cell is the root cell or one of the new pages.
pub record IsCommit (h : Header) (old new : List Page) (place : Cell) (cells : List CellWrite) (d : Disk) : Type 0 where
  pub some : 1 ≤ place.len
  pub behind : 128 ≤ log_at (with_log h place)
  pub room : blocks (unit_of h) (max d.top (log_at (with_log h place) + place.len)) ≤ room_of h
  pub targets : AreTargets (with_log h place) (length d.bytes) cells
  pub own : (k : ℕ) → IsOwn h k → AllApart k cells
  pub old_apart : (k : ℕ) → owners (unit_of h) (place ∷ header_cell ∷ things_of old) k ≤ 1
  pub apart : (k : ℕ) → owners (unit_of h) (place ∷ header_cell ∷ things_of new) k ≤ 1
  pub inside : All (LiesIn (unit_of h) (length d.bytes)) (things_of new)
  pub chain : HasPages (unit_of h) (put_cells cells d.bytes) (first_page_of (fields (put_cells cells d.bytes))) new
  pub targets_are : All (λ w. IsTarget h new w.target) cells

-- A stop leaves what was said, the header's first number, and the slots of the last commit or those of the session with these changes.
abbrev pub BeforeOrAfter : Slots → List SlotChange → Disk → List ℕ → List ℕ → Type 0
BeforeOrAfter s last d image said =
    (said ≡ d.said) × (GivesFrom (s.header).first image (committed s d) ⊎ GivesFrom (s.header).first image (changed last (session s d)))
