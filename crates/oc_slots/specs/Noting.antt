-- What a session notes: where its slots are now, and the blocks that come free by it.
use Rattle.std.specs.Prelude.{◌≡◌, ◌≤◌, ℕ, ◌+◌, nat_eq, if◌then◌else◌, List, [], ◌∷◌, ◌++◌, length, flat_map, Option, All}
use Rattle.std.specs.Map.{lookup}
use Rattle.std.specs.Option.{option_map, option_map_or, option_flatten}
use Rattle.oc_layout.specs.declared.cells.Cell.{Cell}
use Rattle.oc_layout.specs.declared.cells.Space as spaces
use Rattle.oc_layout.specs.Layout.{blocks}
use Rattle.oc_free.specs.FreeParts.{free_at}
use Rattle.oc_pages.specs.declared.page.Page.{Page}
use Rattle.oc_pages.specs.Pages.{pointer_of}
use Rattle.oc_room.specs.Rooms.{Space, IsRoom, owners}
use Rattle.oc_slots.specs.declared.overlay.Overlay.{Overlay}
use Rattle.oc_slots.specs.declared.placed.PlacedChange.{PlacedChange}
use Rattle.oc_slots.specs.declared.slot.SlotId.{SlotId}
use Rattle.oc_slots.specs.Maps.{is_same}
use Rattle.oc_slots.specs.Slots.{Changes, changes_of, put_change, cell_list}
use Rattle.oc_slots.specs.Stores.{fresh_of}

-- the place that was noted of a slot, as a list
abbrev pub noted_cells : Overlay → SlotId → List Cell
noted_cells o id = cell_list (option_flatten (lookup (nat_eq id.number) (changes_of o id.space)))

-- the places that the session has of the slots of these changes
abbrev pub left_by : Overlay → List PlacedChange → List Cell
left_by o ps = flat_map (λ p. noted_cells o p.id) ps

-- where the slot is placed, if it isn't gone
abbrev pub place_of : PlacedChange → Option Cell
place_of p = option_map (λ s. s.cell) p.slot

-- where a slot is by these changes, and else here
abbrev pub placed_place : List PlacedChange → SlotId → Option Cell → Option Cell
placed_place [] id base = base
placed_place (p ∷ ps) id base = if is_same p.id id then place_of p else placed_place ps id base

-- where the session has a slot, by an overlay over pages
abbrev pub place_in : List Page → Overlay → SlotId → Option Cell
place_in pages o id = option_map_or (λ x. x) (lookup (nat_eq id.number) (changes_of o id.space)) (pointer_of pages id.space id.number)

-- the changes of a space with these noted one after another
abbrev pub noted : List PlacedChange → spaces.Space → Changes → Changes
noted [] space changes = changes
noted (p ∷ ps) space changes = noted ps space (put_change p.id (place_of p) space changes)

-- The session's own slots and those that are placed and not noted yet own blocks of their own in the file, which aren't free; each has a byte. As many
-- as there are of both can be given back without memory.
pub record IsSession (o : Overlay) (room : Space) (counted : ℕ) (more : List Cell) : Type 0 where
  pub is_room : IsRoom room
  pub some : All (λ c. 1 ≤ c.len) (fresh_of o ++ more)
  pub within : All (λ c. c.at + blocks room.unit c.len ≤ room.end) (fresh_of o ++ more)
  pub taken : (k : ℕ) → owners room.unit (fresh_of o ++ more) k + free_at room.parts k ≤ 1
  pub count : counted ≡ length (fresh_of o)
  pub spare : counted + length more ≤ room.spare

-- These cells can be given back: each has a byte and lies in the file, no block is in two of them or in one and free, and there is memory for each.
pub record GoFree (room : Space) (cells : List Cell) : Type 0 where
  pub is_room : IsRoom room
  pub some : All (λ c. 1 ≤ c.len) cells
  pub within : All (λ c. c.at + blocks room.unit c.len ≤ room.end) cells
  pub taken : (k : ℕ) → owners room.unit cells k + free_at room.parts k ≤ 1
  pub spare : length cells ≤ room.spare
