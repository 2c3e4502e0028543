-- What contracts see of a slot store: two sides of one file, of which one is told by what changed in the other.
use Rattle.std.specs.Prelude.{◌≤◌, ℕ, ◌==◌, nat_eq, min, if◌then◌else◌, List, [], ◌∷◌, length, map, flat_map, Option, Some, None, option_map, All}
use Rattle.std.specs.HashMap.{spare}
use Rattle.indexmap.specs.IndexMap.{insert_entry}
use Rattle.oc_layout.specs.declared.cells.Cell.{Cell}
use Rattle.oc_layout.specs.declared.cells.Space.{Space}
use Rattle.oc_layout.specs.declared.cells.Space.TheVariants.{Objects, System}
use Rattle.oc_slots.specs.declared.overlay.Overlay.{Overlay}
use Rattle.oc_room.specs.declared.fault.RoomFault.{RoomFault}
use Rattle.oc_room.specs.declared.fault.RoomFault.TheVariants as room_fault
use Rattle.oc_slots.specs.declared.fault.SpaceFault.{SpaceFault}
use Rattle.oc_slots.specs.declared.fault.SpaceFault.TheVariants as slot_fault
use Rattle.oc_slots.specs.declared.slot.SlotId.{SlotId}
use Rattle.oc_slots.specs.declared.slot.SlotChange.{SlotChange}
use Rattle.oc_slots.specs.declared.placed.Slot.{Slot}
use Rattle.oc_slots.specs.declared.placed.PlacedChange.{PlacedChange}
use Rattle.oc_pages.specs.Pages.{space_number}

-- what changed in a space: each number once, with the place of its slot, or none where it is gone
abbrev pub Changes : Type 0
Changes = List (ℕ × Option Cell)

-- what the overlay has of a space
abbrev pub changes_of : Overlay → Space → Changes
changes_of o Objects = o.objects.entries
changes_of o System = o.system.entries

-- how many slots more can be noted without memory
abbrev pub spare_of : Overlay → ℕ
spare_of o = min (spare o.objects) (spare o.system)

-- the changes of a space with this slot noted, if it is one of the space
abbrev pub put_change : SlotId → Option Cell → Space → Changes → Changes
put_change id cell space changes = if space_number space == space_number id.space then insert_entry nat_eq changes id.number cell else changes

-- the cell, if there is one, as a list
abbrev pub cell_list : Option Cell → List Cell
cell_list None = []
cell_list (Some c) = c ∷ []

-- the places of these changes
abbrev pub places_in : Changes → List Cell
places_in changes = flat_map (λ e. cell_list e.1) changes

-- the slot, if there is one, as a list
abbrev pub slot_list : Option Slot → List Slot
slot_list None = []
slot_list (Some s) = s ∷ []

-- the slots that are placed
abbrev pub slots_of : List PlacedChange → List Slot
slots_of placed = flat_map (λ p. slot_list p.slot) placed

-- the places that they have
abbrev pub cells_of : List PlacedChange → List Cell
cells_of placed = map (λ s. s.cell) (slots_of placed)

-- the change that is placed
abbrev pub change_of : PlacedChange → SlotChange
change_of p = record { id = p.id; bytes = option_map (λ s. s.bytes) p.slot }

-- the length of these bytes, if there are any, as a list
abbrev pub length_list : Option (List ℕ) → List ℕ
length_list None = []
length_list (Some b) = length b ∷ []

-- the lengths of the slots that these changes bring, in their order
abbrev pub lengths_of : List SlotChange → List ℕ
lengths_of changes = flat_map (λ c. length_list c.bytes) changes

-- each of these slots has a byte
abbrev pub AreSome : List SlotChange → Type 0
AreSome changes = All (λ n. 1 ≤ n) (lengths_of changes)

-- a fault of a room as one of slots
abbrev pub space_fault : RoomFault → SpaceFault
space_fault room_fault.Memory = slot_fault.Memory
space_fault (room_fault.Full need len limit) = slot_fault.Full need len limit
