-- Slots as a map of bytes.
use Rattle.std.specs.Prelude.{◌≡◌, ℕ, ◌*◌, ◌==◌, ◌&&◌, Bool, if◌then◌else◌, List, [], ◌∷◌, take, drop, Option, option_map, is_some}
use Rattle.oc_layout.specs.declared.cells.Cell.{Cell}
use Rattle.oc_pages.specs.Pages.{space_number}
use Rattle.oc_slots.specs.declared.slot.SlotId.{SlotId}
use Rattle.oc_slots.specs.declared.slot.SlotChange.{SlotChange}

-- for each slot its bytes, if it is there
abbrev pub SlotMap : Type 0
SlotMap = SlotId → Option (List ℕ)

-- both maps have the same slots with the same bytes
abbrev pub Same : SlotMap → SlotMap → Type 0
Same m n = (id : SlotId) → m id ≡ n id

abbrev pub is_same : SlotId → SlotId → Bool
is_same a b = (space_number a.space == space_number b.space) && (a.number == b.number)

-- the map with these slots changed, the first one of each
abbrev pub changed : List SlotChange → SlotMap → SlotMap
changed [] m id = m id
changed (c ∷ cs) m id = if is_same c.id id then c.bytes else changed cs m id

-- whether a slot is there once these changes are made, by whether it was before
abbrev pub has_after : List SlotChange → SlotId → Bool → Bool
has_after [] id was = was
has_after (c ∷ cs) id was = if is_same c.id id then is_some c.bytes else has_after cs id was

-- the bytes that a cell names
abbrev pub bytes_at : ℕ → List ℕ → Cell → List ℕ
bytes_at unit image c = take c.len (drop (c.at * unit) image)

-- what a pointer stands for
abbrev pub content : ℕ → List ℕ → Option Cell → Option (List ℕ)
content unit image o = option_map (bytes_at unit image) o
