-- What a commit does to the pointers, and the pages that it adds.
use Rattle.std.specs.Prelude.{◌≡◌, ◌≤◌, ℕ, ◌+◌, ◌==◌, ◌&&◌, ◌||◌, nat_eq, Bool, false, if◌then◌else◌, IsTrue, List, [], ◌∷◌, ◌++◌, length, map, take, flat_map, is_some, unwrap_or, Option, None, All, AllPairs, sum_by}
use Rattle.std.specs.List.{list_any}
use Rattle.std.specs.Map.{lookup}
use Rattle.std.specs.Option.{option_map_or, option_to_list}
use Rattle.oc_layout.specs.declared.cells.Cell.{Cell}
use Rattle.oc_layout.specs.declared.cells.CellWrite.{CellWrite}
use Rattle.oc_layout.specs.declared.cells.Header.{Header}
use Rattle.oc_layout.specs.declared.cells.Space.{Space}
use Rattle.oc_layout.specs.declared.cells.Space.TheVariants.{Objects, System}
use Rattle.oc_layout.specs.Layout.{FitsCell, is_ascending}
use Rattle.oc_pages.specs.declared.page.Page.{Page}
use Rattle.oc_pages.specs.Chains.{page_bytes}
use Rattle.oc_pages.specs.Pages.{no_cell, pointer_of, target_of, page_of, first_of, empty_page, space_number, things_of}
use Rattle.oc_slots.specs.declared.new_pages.NewPage.{NewPage}
use Rattle.oc_slots.specs.declared.overlay.Overlay.{Overlay}
use Rattle.oc_slots.specs.declared.placed.PlacedChange.{PlacedChange}
use Rattle.oc_slots.specs.declared.placed.Slot.{Slot}
use Rattle.oc_slots.specs.declared.slot.SlotId.{SlotId}
use Rattle.oc_slots.specs.declared.turnover.Pointing.{Pointing}
use Rattle.oc_slots.specs.Forms.{root_place}
use Rattle.oc_slots.specs.Maps.{is_same}
use Rattle.oc_slots.specs.Slots.{changes_of, cells_of}
use Rattle.oc_slots.specs.Stores.{fresh_of}
use Rattle.oc_slots.specs.Noting.{place_in, placed_place}
use Rattle.oc_slots.specs.Pointings.{writes_of, is_pointed, pointed_place, cells_in, replaced, AreAt, AreDistinct}

-- a change names the slot, or the overlay has it
abbrev pub is_changed : Overlay → List PlacedChange → SlotId → Bool
is_changed o placed id = list_any (λ p. is_same p.id id) placed || is_some (lookup (nat_eq id.number) (changes_of o id.space))

-- the slot changed, and is there or was: so its pointer is set
abbrev pub is_moved : List Page → Overlay → List PlacedChange → SlotId → Bool
is_moved pages o placed id = is_changed o placed id && (is_some (placed_place placed id (place_in pages o id)) || is_some (pointer_of pages id.space id.number))

-- What becomes of the pointers of these pages by what an overlay has and by these changes. Just the slots that changed are pointed to where they
-- are then, each once and in the order of the targets. What the pages, the overlay and the changes had of them is pointed to or freed.
pub record IsTurnover (unit : ℕ) (pages : List Page) (o : Overlay) (placed : List PlacedChange) (ps : List Pointing) (freed : List Cell) : Type 0 where
  pub distinct : AreDistinct ps
  pub numbers : All (λ p. (1 ≤ p.id.number) × (p.id.number ≤ 2147483646)) ps
  pub fits : All (λ p. FitsCell p.cell) ps
  pub targets : AreAt unit pages ps
  pub ascend : IsTrue (is_ascending (writes_of ps))
  pub places : (id : SlotId) → pointed_place ps id (pointer_of pages id.space id.number) ≡ placed_place placed id (place_in pages o id)
  pub moved : (id : SlotId) → is_pointed ps id ≡ is_moved pages o placed id
  pub cells : (f : Cell → ℕ) → sum_by f freed + sum_by f (cells_in ps) ≡ sum_by f (fresh_of o) + sum_by f (cells_of placed) + sum_by f (replaced pages ps)
  pub were : (f : Cell → ℕ) → sum_by f (replaced pages ps) ≤ sum_by f (things_of pages)

-- ---- how that is found

-- the overlay has the slot
abbrev pub is_noted : Overlay → SlotId → Bool
is_noted o id = is_some (lookup (nat_eq id.number) (changes_of o id.space))

-- the slot that a change of this space is of
abbrev pub slot_at : Space → ℕ → SlotId
slot_at space number = record { space = space; number = number }

-- the pointing of a slot that is here from now on, or gone: none where it wasn't there either
abbrev pub pointed : ℕ → List Page → SlotId → Option Cell → List Pointing
pointed unit pages id place =
    if is_some place || is_some (pointer_of pages id.space id.number)
    then record { id = id; cell = unwrap_or place no_cell; target = target_of unit pages id.space id.number } ∷ []
    else []

-- that of a slot that the overlay has, unless it is named
abbrev pub other_pointed : ℕ → List Page → Overlay → SlotId → Option Cell → List Pointing
other_pointed unit pages named id place = if is_noted named id then [] else pointed unit pages id place

-- what comes free by it: where the overlay has the slot if it is named, and else where the pages have it
abbrev pub other_freed : List Page → Overlay → SlotId → Option Cell → List Cell
other_freed pages named id place = if is_noted named id then option_to_list place else option_to_list (pointer_of pages id.space id.number)

-- the numbers of their cells have 32 bits
abbrev pub AreFitting : List Pointing → Type 0
AreFitting ps = All (λ p. FitsCell p.cell) ps

-- ---- the pages that are added

-- the numbers of this space that are pointed
abbrev pub numbers_in : Space → List Pointing → List ℕ
numbers_in space ps = flat_map (λ p. if space_number p.id.space == space_number space then p.id.number ∷ [] else []) ps

-- the places of these pages
abbrev pub places_of : List NewPage → List Cell
places_of added = map (λ a. record { at = a.at; len = 1024 }) added

-- the space and the index of each of these pages
abbrev pub keys_of : List NewPage → List (Space × ℕ)
keys_of added = map (λ a. (a.space, a.index)) added

-- the pages with these, empty, in front: the last one first
abbrev pub with_added : List NewPage → List Page → List Page
with_added [] pages = pages
with_added (a ∷ more) pages = with_added more (empty_page a.space a.index a.at (first_of pages) ∷ pages)

-- the pages of these indexes, those of objects first, at the first of these cells
pub record AreNew (objects system : List ℕ) (cells : List Cell) (added : List NewPage) : Type 0 where
  pub indexes : map {B = Space × ℕ} (λ a. (a.space, a.index)) added ≡ map (λ index. (Objects, index)) objects ++ map (λ index. (System, index)) system
  pub places : map (λ a. a.at) added ≡ take (length added) (map (λ c. c.at) cells)

-- no page is of the space and index of one of these, and no two of them are of the same
pub record AreMissing (pages : List Page) (added : List NewPage) : Type 0 where
  pub none : All (λ a. page_of pages a.space a.index ≡ None) added
  pub distinct : AllPairs (λ a b. ((space_number a.space == space_number b.space) && (a.index == b.index)) ≡ false) added

-- the write of the root cell, where pages are added: it names the last of them
abbrev pub root_writes : Header → List NewPage → List CellWrite
root_writes h [] = []
root_writes h (a ∷ []) = record { target = root_place h; cell = record { at = a.at; len = 1024 } } ∷ []
root_writes h (a ∷ b ∷ bs) = root_writes h (b ∷ bs)

-- the bytes of the page of this space and index
abbrev pub bytes_of : List Page → NewPage → List ℕ
bytes_of pages a = option_map_or page_bytes (page_of pages a.space a.index) []

-- the added pages as slots that are written: each at its place, with the bytes that it has among these pages
abbrev pub page_slots : List Page → List NewPage → List Slot
page_slots pages added = map (λ a. record { cell = record { at = a.at; len = 1024 }; bytes = bytes_of pages a }) added
