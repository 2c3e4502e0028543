-- Cells that numbers get in the pages.
use Rattle.std.specs.Prelude.{◌≡◌, ℕ, Bool, false, if◌then◌else◌, List, [], ◌∷◌, flat_map, IsSome, Option, option_map, All, AllPairs}
use Rattle.std.specs.List.{list_any}
use Rattle.std.specs.Option.{option_to_list}
use Rattle.oc_layout.specs.declared.cells.Cell.{Cell}
use Rattle.oc_layout.specs.declared.cells.CellWrite.{CellWrite}
use Rattle.oc_pages.specs.declared.page.Page.{Page}
use Rattle.oc_pages.specs.Pages.{pointer_in, pointer_of, page_holding, target_of, with_pointer}
use Rattle.oc_slots.specs.declared.slot.SlotId.{SlotId}
use Rattle.oc_slots.specs.declared.turnover.Pointing.{Pointing}
use Rattle.oc_slots.specs.Maps.{is_same}

-- the pages with these cells, one after another
abbrev pub set_all : List Pointing → List Page → List Page
set_all [] pages = pages
set_all (p ∷ ps) pages = set_all ps (with_pointer p.id.space p.id.number p.cell pages)

-- the write that puts one in, where a page has its number
abbrev pub write_of : Pointing → Option CellWrite
write_of p = option_map (λ target. record { target = target; cell = p.cell }) p.target

-- the writes that put them in
abbrev pub writes_of : List Pointing → List CellWrite
writes_of ps = flat_map (λ p. option_to_list (write_of p)) ps

-- each stands where the cell of its number does, if a page has the number
abbrev pub AreAt : ℕ → List Page → List Pointing → Type 0
AreAt unit pages ps = All (λ p. target_of unit pages p.id.space p.id.number ≡ p.target) ps

-- one of them is of this slot
abbrev pub is_pointed : List Pointing → SlotId → Bool
is_pointed ps id = list_any (λ p. is_same p.id id) ps

-- the pointer of this slot by these cells, and else this one
abbrev pub pointed_place : List Pointing → SlotId → Option Cell → Option Cell
pointed_place [] id base = base
pointed_place (p ∷ ps) id base = if is_same p.id id then pointer_in p.cell else pointed_place ps id base

-- the places that they point to
abbrev pub cells_in : List Pointing → List Cell
cells_in ps = flat_map (λ p. option_to_list (pointer_in p.cell)) ps

-- the places that their numbers had before
abbrev pub replaced : List Page → List Pointing → List Cell
replaced pages ps = flat_map (λ p. option_to_list (pointer_of pages p.id.space p.id.number)) ps

-- no slot is pointed twice
abbrev pub AreDistinct : List Pointing → Type 0
AreDistinct ps = AllPairs (λ p q. is_same p.id q.id ≡ false) ps

-- a page holds each of the numbers
abbrev pub AreHeld : List Page → List Pointing → Type 0
AreHeld pages ps = All (λ p. IsSome (page_holding pages p.id.space p.id.number)) ps
