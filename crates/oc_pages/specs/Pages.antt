-- Pages of pointers: which number of which space has which cell.
use Rattle.std.specs.Prelude.{◌≡◌, ◌≤◌, ℕ, ◌+◌, ◌-◌, ◌*◌, ◌==◌, ◌&&◌, not, nat_lt, nat_le, Bool, true, false, if◌then◌else◌, List, [], ◌∷◌, map, replicate, set, slice_index_or, filter, find, flat_map, Option, Some, None, option_map, Contains}
use Rattle.std.specs.Option.{option_flatten}
use Rattle.oc_layout.specs.declared.cells.Cell.{Cell}
use Rattle.oc_layout.specs.declared.cells.Space.{Space}
use Rattle.oc_layout.specs.declared.cells.Space.TheVariants.{Objects, System}
use Rattle.oc_pages.specs.declared.page.Page.{Page}

-- the cell that names nothing
abbrev pub no_cell : Cell
no_cell = record { at = 0; len = 0 }

abbrev pub is_empty : Cell → Bool
is_empty c = (c.at == 0) && (c.len == 0)

-- the cell, unless it names nothing
abbrev pub pointer_in : Cell → Option Cell
pointer_in c = if is_empty c then None else Some c

-- how a page names its space
abbrev pub space_number : Space → ℕ
space_number Objects = 1
space_number System = 2

-- the page of this space and index
abbrev pub is_page : Space → ℕ → Page → Bool
is_page space index p = (space_number p.space == space_number space) && (p.index == index)

-- the 126 numbers of a page of this index
abbrev pub has_number : ℕ → ℕ → Bool
has_number index number = nat_lt (126 * index) number && nat_le number (126 * index + 126)

-- the page has a cell for this number of this space
abbrev pub holds : Space → ℕ → Page → Bool
holds space number p = (space_number p.space == space_number space) && has_number p.index number

-- the place of a number among those of its page
abbrev pub slot_in : Page → ℕ → ℕ
slot_in p number = number - 126 * p.index - 1

-- the cell of a number that the page holds
abbrev pub cell_in : Page → ℕ → Cell
cell_in p number = slice_index_or p.cells (slot_in p number) no_cell

-- the page of this space and index, if there is one
abbrev pub page_of : List Page → Space → ℕ → Option Page
page_of pages space index = find (is_page space index) pages

-- the page that holds this number, if there is one
abbrev pub page_holding : List Page → Space → ℕ → Option Page
page_holding pages space number = find (holds space number) pages

-- the cell of a number, if a page holds it and it isn't empty
abbrev pub pointer_of : List Page → Space → ℕ → Option Cell
pointer_of pages space number = option_flatten (option_map (λ p. pointer_in (cell_in p number)) (page_holding pages space number))

-- the byte of the file where the cell of a number stands, with `unit` bytes in a block
abbrev pub target_of : ℕ → List Page → Space → ℕ → Option ℕ
target_of unit pages space number = option_map (λ p. p.at * unit + 16 + 8 * slot_in p number) (page_holding pages space number)

-- the page's place and length
abbrev pub place_of : Page → Cell
place_of p = record { at = p.at; len = 1024 }

-- the root cell of a chain of these pages
abbrev pub first_of : List Page → Cell
first_of [] = no_cell
first_of (p ∷ ps) = place_of p

-- a page without pointers, in front of a chain that this cell leads to
abbrev pub empty_page : Space → ℕ → ℕ → Cell → Page
empty_page space index at link = record { at = at; space = space; index = index; link = link; cells = replicate 126 no_cell }

-- the page with another cell for this number, if it holds it
abbrev pub with_cell : Space → ℕ → Cell → Page → Page
with_cell space number cell p = if holds space number p then record p { cells = set p.cells (slot_in p number) cell } else p

-- the pages with another cell for this number
abbrev pub with_pointer : Space → ℕ → Cell → List Page → List Page
with_pointer space number cell pages = map (with_cell space number cell) pages

-- the page's place, and the places that its pointers name
abbrev pub things_in : Page → List Cell
things_in p = place_of p ∷ filter (λ c. not (is_empty c)) p.cells

-- the places of all pages, and those that all pointers name
abbrev pub things_of : List Page → List Cell
things_of pages = flat_map things_in pages

-- the number has a pointer in this page
pub record IsPointed (space : Space) (number : ℕ) (p : Page) : Type 0 where
  pub holds : holds space number p ≡ true
  pub some : is_empty (cell_in p number) ≡ false

-- no page is of this index, which one of the numbers has
pub record IsMissing (pages : List Page) (space : Space) (numbers : List ℕ) (index : ℕ) : Type 0 where
  pub number : ℕ
  pub among : Contains numbers number
  pub has : has_number index number ≡ true
  pub none : page_of pages space index ≡ None

-- no later page is of the same space and index
abbrev pub IsOther : Page → Page → Type 0
IsOther p q = is_page p.space p.index q ≡ false

-- the page's address and the numbers of its pointers are in range
pub record IsInRange (p : Page) : Type 0 where
  pub address : p.at ≤ 2147483647
  pub numbers : (number : ℕ) → has_number p.index number ≡ true → is_empty (cell_in p number) ≡ false → number ≤ 2147483646

-- what contracts see of pages: the bytes in a block, the pages in the order of the chain, and how many more can be added without memory
pub record Paged : Type 0 where
  pub unit : ℕ
  pub pages : List Page
  pub spare : ℕ
