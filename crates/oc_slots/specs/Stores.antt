-- What contracts see of a slot store, and its two maps.
use Rattle.std.specs.Prelude.{◌≡◌, ◌≢◌, ◌≤◌, ℕ, true, false, nat_eq, List, [], ◌∷◌, ◌++◌, length, Option, Some, None, is_some, All, AllPairs}
use Rattle.std.specs.Map.{keys_of, lookup}
use Rattle.std.specs.Option.{option_map_or}
use Rattle.oc_layout.specs.declared.cells.Cell.{Cell}
use Rattle.oc_layout.specs.declared.cells.Header.{Header}
use Rattle.oc_layout.specs.declared.cells.Space.{Space}
use Rattle.oc_layout.specs.declared.cells.Space.TheVariants.{Objects, System}
use Rattle.oc_layout.specs.Layout.{unit_of, room_of, blocks}
use Rattle.oc_layout.specs.Headers.{is_in_range}
use Rattle.oc_host.specs.Disk.{Disk}
use Rattle.oc_pages.specs.declared.page.Page.{Page}
use Rattle.oc_pages.specs.Pages.{Paged, pointer_of, things_of, IsOther}
use Rattle.oc_room.specs.Rooms.{Tiles, IsRoom}
use Rattle.oc_room.specs.Rooms as rooms
use Rattle.oc_slots.specs.declared.overlay.Overlay.{Overlay}
use Rattle.oc_slots.specs.declared.slot.Side.{Side}
use Rattle.oc_slots.specs.declared.slot.Side.TheVariants.{Committed, Session}
use Rattle.oc_slots.specs.declared.slot.SlotId.{SlotId}
use Rattle.oc_slots.specs.declared.slot.SlotChange.{SlotChange}
use Rattle.oc_slots.specs.Cached.{Cached}
use Rattle.oc_slots.specs.Maps.{SlotMap, bytes_at, content, has_after, is_same}
use Rattle.oc_slots.specs.Forms.{LiesIn, header_cell}
use Rattle.oc_slots.specs.Held.{Holds, map_of}
use Rattle.oc_slots.specs.Slots.{Changes, changes_of, places_in, AreSome}

-- The header, the pages of the committed side, what changed in the two spaces since the last commit, the room of the file, its length in
-- bytes, and the slots whose bytes are kept in memory.
pub record Slots : Type 0 where
  pub header : Header
  pub pages : List Page
  pub objects : Changes
  pub system : Changes
  pub room : rooms.Space
  pub len : ℕ
  pub cached : Cached

-- the places of the slots that are kept, the most recently fetched first
abbrev pub kept : Slots → List Cell
kept s = keys_of s.cached

-- what changed in this space
abbrev pub changes_in : Slots → Space → Changes
changes_in s Objects = s.objects
changes_in s System = s.system

-- where the committed side has the slot
abbrev pub committed_place : Slots → SlotId → Option Cell
committed_place s id = pointer_of s.pages id.space id.number

-- where the session has it: as it was noted if it changed, and else as the committed side has it
abbrev pub session_place : Slots → SlotId → Option Cell
session_place s id = option_map_or (λ o. o) (lookup (nat_eq id.number) (changes_in s id.space)) (committed_place s id)

-- the slots of the last commit
abbrev pub committed : Slots → Disk → SlotMap
committed s d = map_of s.header s.pages d.bytes

-- these with what changed since
abbrev pub session : Slots → Disk → SlotMap
session s d id = content (unit_of s.header) d.bytes (session_place s id)

-- where this side has the slot
abbrev pub place_on : Side → Slots → SlotId → Option Cell
place_on Committed s id = committed_place s id
place_on Session s id = session_place s id

-- the map of this side
abbrev pub map_on : Side → Slots → Disk → SlotMap
map_on Committed s d = committed s d
map_on Session s d = session s d

-- the bytes that a cell names, 0 where there is none
abbrev pub length_of : Option Cell → ℕ
length_of None = 0
length_of (Some c) = c.len

-- how long the slot of this side is, 0 where it has none
abbrev pub length_on : Side → Slots → SlotId → ℕ
length_on side s id = length_of (place_on side s id)

-- the cell is where one of the sides has a slot
abbrev pub IsPlace : Slots → Cell → Type 0
IsPlace s c = (side : Side) × ((id : SlotId) × (place_on side s id ≡ Some c))

-- what is kept are slots of the two sides
abbrev pub ArePlaces : Slots → Cached → Type 0
ArePlaces s es = All (λ e. IsPlace s e.0) es

-- each has the bytes that the file has at its place
abbrev pub AreRead : ℕ → List ℕ → Cached → Type 0
AreRead unit image es = All (λ e. e.1 ≡ bytes_at unit image e.0) es

-- the places of the slots that changed since the last commit
abbrev pub fresh : Slots → List Cell
fresh s = places_in s.objects ++ places_in s.system

-- the places of the header, of the pages, and of the slots of both sides
abbrev pub things : Slots → List Cell
things s = header_cell ∷ things_of s.pages ++ fresh s

-- The file is what the store left: it holds the committed side, has this length, the places of the session lie in it, and what is kept was read
-- from it.
pub record Agrees (s : Slots) (d : Disk) : Type 0 where
  pub holds : Holds s.header s.pages d
  pub len : s.len ≡ length d.bytes
  pub fresh : All (LiesIn (unit_of s.header) s.len) (fresh s)
  pub cached : AreRead (unit_of s.header) d.bytes s.cached

-- the places of the session's own slots, as the overlay has them
abbrev pub fresh_of : Overlay → List Cell
fresh_of o = places_in (changes_of o Objects) ++ places_in (changes_of o System)

-- the parts of a store as contracts see them
abbrev pub parts : Header → Paged → Overlay → rooms.Space → ℕ → Cached → Slots
parts h pages o room len es = record {
  header = h;
  pages = pages.pages;
  objects = changes_of o Objects;
  system = changes_of o System;
  room = room;
  len = len;
  cached = es;
}

-- the numbers of slots
abbrev pub AreNumbers : Changes → Type 0
AreNumbers changes = All (λ e. (1 ≤ e.0) × (e.0 ≤ 2147483646)) changes

-- The parts of a store belong together. Each block of the file is in just one of the header, the pages, the slots of both sides and the free parts;
-- as many of the session's own slots as there are can be given back without memory.
pub record IsWhole (h : Header) (pages : Paged) (o : Overlay) (room : rooms.Space) (counted len : ℕ) : Type 0 where
  pub in_range : is_in_range h ≡ true
  pub closed : h.gate ≢ 1
  pub page_unit : pages.unit ≡ unit_of h
  pub distinct : AllPairs IsOther pages.pages
  pub is_room : IsRoom room
  pub unit : room.unit ≡ unit_of h
  pub limit : room.limit ≡ room_of h
  pub end : room.end ≡ blocks (unit_of h) len
  pub tiles : Tiles room (header_cell ∷ things_of pages.pages ++ fresh_of o)
  pub some : All (λ c. 1 ≤ c.len) (header_cell ∷ things_of pages.pages ++ fresh_of o)
  pub count : counted ≡ length (fresh_of o)
  pub spare : counted ≤ room.spare
  pub objects : AreNumbers (changes_of o Objects)
  pub system : AreNumbers (changes_of o System)

-- Each slot is named once, by a number that it may have, and has a byte if it isn't gone.
pub record AreChanges (changes : List SlotChange) : Type 0 where
  pub distinct : AllPairs (λ a b. is_same a.id b.id ≡ false) changes
  pub numbers : All (λ c. (1 ≤ c.id.number) × (c.id.number ≤ 2147483646)) changes
  pub some : AreSome changes

-- the same slots in the same places, the same room, and the same slots kept
pub record IsUnchanged (old new : Slots) : Type 0 where
  pub header : new.header ≡ old.header
  pub pages : new.pages ≡ old.pages
  pub objects : new.objects ≡ old.objects
  pub system : new.system ≡ old.system
  pub room : rooms.IsSame old.room new.room
  pub len : new.len ≡ old.len
  pub cached : new.cached ≡ old.cached

-- both sides are the session that was with these changes: nothing has changed since, and just its slots are there
pub record IsSettled (last : List SlotChange) (old new : Slots) : Type 0 where
  pub objects : new.objects ≡ []
  pub system : new.system ≡ []
  pub there : (id : SlotId) → is_some (committed_place new id) ≡ has_after last id (is_some (session_place old id))
