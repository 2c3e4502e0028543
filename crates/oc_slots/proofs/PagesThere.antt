-- The pages that a commit adds are there in the end, and each has its 1,024 bytes.
use Rattle.std.proofs.Common.{◌≡◌, inl, inr, ℕ, ◌*◌, Bool, true, false, List, [], ◌∷◌, length, map, get_or, Option, Some, None, sym, ap, subst, refl, arith, length-append}
use Rattle.std.specs.Prelude.{All, IsSome, flat_map, option_map}
use Rattle.std.specs.Option.{option_map_or}
use Rattle.std.proofs.lemmas.Bool.{cases_Bool}
use Rattle.std.proofs.lemmas.Bool.Decides.{nat_tests}
use Rattle.std.proofs.lemmas.List.Elements.{All-nil, All-cons, All-map, All-contains}
use Rattle.oc_layout.specs.declared.cells.Cell.{Cell}
use Rattle.oc_layout.specs.declared.cells.Space.{Space}
use Rattle.oc_layout.specs.Layout.{cell_bytes}
use Rattle.oc_pages.specs.declared.page.Page.{Page}
use Rattle.oc_pages.specs.Chains.{page_bytes}
use Rattle.oc_pages.specs.Pages.{is_page, page_of, first_of, empty_page}
use Rattle.oc_pages.proofs.Listings.{found_is}
use Rattle.oc_slots.specs.declared.new_pages.NewPage.{NewPage}
use Rattle.oc_slots.specs.declared.placed.Slot.{Slot}
use Rattle.oc_slots.specs.declared.turnover.Pointing.{Pointing}
use Rattle.oc_slots.specs.Pointings.{set_all}
use Rattle.oc_slots.specs.Turnovers.{bytes_of, page_slots, places_of, with_added, AreMissing}
use Rattle.oc_slots.proofs.AddedPages.{cells_new, page_pointed, with_pointings}
use Rattle.oc_slots.proofs.PointedPages.{cells_all}

-- ---- they are found

-- the page of a space and index is found with one in front too
found_front : (p : Page) (pages : List Page) (space : Space) (index : ℕ) → IsSome (page_of pages space index) → IsSome (page_of (p ∷ pages) space index)
found_front p pages space index some = elim (cases_Bool (is_page space index p)) [
  | inl here ↦ rw here refl
  | inr away ↦ rw away some
]

found_then : (more : List NewPage) (pages : List Page) (space : Space) (index : ℕ) → IsSome (page_of pages space index) → IsSome (page_of (with_added more pages) space index)
found_then [] pages space index some = some
found_then (b ∷ more) pages space index some =
    let p = empty_page b.space b.index b.at (first_of pages) in
    found_then more (p ∷ pages) space index (found_front p pages space index some)

added_found : (added : List NewPage) (pages : List Page) → All (λ a. IsSome (page_of (with_added added pages) a.space a.index)) added
added_found [] pages = All-nil (λ (a : NewPage). IsSome (page_of pages a.space a.index))
added_found (a ∷ more) pages =
    let p = empty_page a.space a.index a.at (first_of pages) in
    All-cons (λ (x : NewPage). IsSome (page_of (with_added more (p ∷ pages)) x.space x.index)) a more (found_then more (p ∷ pages) a.space a.index here) (added_found more (p ∷ pages))
  where
    here : IsSome (page_of (empty_page a.space a.index a.at (first_of pages) ∷ pages) a.space a.index)
    here = let this : is_page a.space a.index (empty_page a.space a.index a.at (first_of pages)) ≡ true = grind (arith, nat_tests) in rw this refl

pub pages_there : (old : List Page) (added : List NewPage) (ps : List Pointing) → AreMissing old added → All (λ a. IsSome (page_of (set_all ps (with_added added old)) a.space a.index)) added
pages_there old added ps missing k d lt =
    let a = get_or added k d in
    subst IsSome (sym (page_pointed ps (with_added added old) a.space a.index)) (mapped (page_of (with_added added old) a.space a.index) (added_found added old k d lt))
  where
    mapped : (o : Option Page) → IsSome o → IsSome (option_map (with_pointings ps) o)
    mapped None some = some
    mapped (Some q) some = refl

-- ---- they have their bytes

length_cells : (cells : List Cell) → length (flat_map cell_bytes cells) ≡ 8 * length cells
length_cells [] = refl
length_cells (c ∷ cs) = omega (arith, length_cells cs, length-append (cell_bytes c) (flat_map cell_bytes cs))

length_page : (p : Page) → length p.cells ≡ 126 → length (page_bytes p) ≡ 1024
length_page p size = omega (arith, length_cells p.cells, size)

length_found : (pages : List Page) (a : NewPage) → All (λ p. length p.cells ≡ 126) pages → IsSome (page_of pages a.space a.index) → length (bytes_of pages a) ≡ 1024
length_found pages a sizes some = go (page_of pages a.space a.index) refl some
  where
    go : (o : Option Page) → page_of pages a.space a.index ≡ o → IsSome o → length (option_map_or page_bytes o []) ≡ 1024
    go None e none = absurd (nothing none)
      where
        nothing : ◌≡◌ {A = Bool} false true → ⊥
        nothing is = cc
    go (Some q) e some_ = length_page q (All-contains (λ (p : Page). length p.cells ≡ 126) pages q sizes (found_is (is_page a.space a.index) pages q e).0)

pub slots_are : (old : List Page) (added : List NewPage) (ps : List Pointing) → All (λ p. length p.cells ≡ 126) old → AreMissing old added → All (λ s. s.cell.len ≡ length s.bytes) (page_slots (set_all ps (with_added added old)) added)
slots_are old added ps sizes missing =
    let new = set_all ps (with_added added old) in
    All-map (λ (s : Slot). s.cell.len ≡ length s.bytes) (λ (a : NewPage). record { cell = record { at = a.at; len = 1024 }; bytes = bytes_of new a }) added
    (λ k d lt. sym (length_found new (get_or added k d) (cells_all ps (with_added added old) (cells_new added old sizes)) (pages_there old added ps missing k d lt)))

pub places_are : (pages : List Page) (added : List NewPage) → map (λ s. s.cell) (page_slots pages added) ≡ places_of added
places_are pages [] = refl
places_are pages (a ∷ more) = ap (λ (l : List Cell). record { at = a.at; len = 1024 } ∷ l) (places_are pages more)
