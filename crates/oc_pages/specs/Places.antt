-- How pages are kept: in the order in which they came, with the place of each found by its space and index.
use Rattle.std.specs.Prelude.{◌≡◌, ◌<◌, ◌≤◌, ℕ, ◌^◌, ◌++◌, min, nat_eq, true, false, List, length, take, drop, reverse, slice_index_or, Option, Some, All}
use Rattle.std.specs.HashMap.{get, spare}
use Rattle.oc_layout.specs.declared.cells.Cell.{Cell}
use Rattle.oc_layout.specs.declared.cells.Space.{Space}
use Rattle.oc_layout.specs.declared.cells.Space.TheVariants.{Objects, System}
use Rattle.oc_pages.specs.declared.page.Page.{Page}
use Rattle.oc_pages.specs.declared.places.Places.{Places}
use Rattle.oc_pages.specs.Pages.{no_cell, is_page, has_number, is_empty, cell_in, empty_page, first_of}

-- the place kept for this space and index
abbrev pub place_in : Places → Space → ℕ → Option ℕ
place_in ps Objects index = get nat_eq ps.objects index
place_in ps System index = get nat_eq ps.system index

-- how many places more can be kept without memory
abbrev pub spare_in : Places → ℕ
spare_in ps = min (spare ps.objects) (spare ps.system)

-- no page
unfoldable pub no_page : Page
no_page = empty_page Objects 0 0 no_cell

-- the page that came as number k
abbrev pub page_in : List Page → ℕ → Page
page_in kept k = slice_index_or kept k no_page

-- each page is found by its space and index, and what is found is the page
pub record IsIndexed (kept : List Page) (places : Places) : Type 0 where
  pub found : (space : Space) (index place : ℕ) → place_in places space index ≡ Some place → (place < length kept) × (is_page space index (page_in kept place) ≡ true)
  pub known : (k : ℕ) → k < length kept → place_in places (page_in kept k).space (page_in kept k).index ≡ Some k

-- what the pages kept are seen as: themselves, and how many more can be kept without memory
pub record Kept : Type 0 where
  pub pages : List Page
  pub spare : ℕ

-- the chain's order: the first `loaded` pages came in it, and each later one stands before those that came earlier
abbrev pub chained : ℕ → List Page → List Page
chained loaded kept = reverse (drop loaded kept) ++ take loaded kept

-- the number of each pointer has 32 bits
abbrev pub IsNamed : Page → Type 0
IsNamed p = (number : ℕ) → has_number p.index number ≡ true → is_empty (cell_in p number) ≡ false → number < 2 ^ 32

-- the chain begins at this cell, and its pages are in order and have all their cells
pub record IsOrdered (first : Cell) (loaded : ℕ) (kept : List Page) : Type 0 where
  pub within : loaded ≤ length kept
  pub first_is : first ≡ first_of (chained loaded kept)
  pub named : All IsNamed kept
  pub full : All (λ p. length p.cells ≡ 126) kept
