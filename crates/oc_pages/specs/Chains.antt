-- The bytes of a page, and the chain of pages that an image has.
use Rattle.std.specs.Prelude.{◌≡◌, ◌⊎◌, ◌<◌, ◌≤◌, ◌^◌, ℕ, zero, suc, ◌+◌, ◌*◌, List, [], ◌∷◌, ◌++◌, length, take, drop, slice_index, flat_map, All, AllPairs}
use Rattle.std.specs.Int.{w32, to_be_bytes, from_be_bytes}
use Rattle.oc_layout.specs.declared.cells.Cell.{Cell}
use Rattle.oc_layout.specs.Layout.{cell_bytes, first_cell, FitsCell}
use Rattle.oc_pages.specs.declared.page.Page.{Page}
use Rattle.oc_pages.specs.Pages.{no_cell, space_number, place_of, IsInRange, IsOther}

-- the link, the space and the index, and the cells of the page's numbers
abbrev pub page_bytes : Page → List ℕ
page_bytes p = cell_bytes p.link ++ (to_be_bytes w32 (space_number p.space) ++ (to_be_bytes w32 p.index ++ flat_map cell_bytes p.cells))

-- n cells from the front
unfoldable pub cells_from : ℕ → List ℕ → List Cell
cells_from zero b = []
cells_from (suc n) b = first_cell b ∷ cells_from n (drop 8 b)

-- these bytes are read as the page
pub record ReadsAs (p : Page) (b : List ℕ) : Type 0 where
  pub link : p.link ≡ first_cell b
  pub space : space_number p.space ≡ from_be_bytes w32 (drop 8 b)
  pub index : p.index ≡ from_be_bytes w32 (drop 12 b)
  pub cells : p.cells ≡ cells_from 126 (drop 16 b)

-- its numbers have 32 bits, and it has all its cells
pub record FitsPage (p : Page) : Type 0 where
  pub link : FitsCell p.link
  pub index : p.index < 2 ^ 32
  pub cells : All FitsCell p.cells
  pub size : length p.cells ≡ 126

pub record SpellsPage (p : Page) (b : List ℕ) : Type 0 where
  pub fits : FitsPage p
  pub bytes : b ≡ page_bytes p

-- the 1,024 bytes at this block
abbrev pub page_at : ℕ → List ℕ → ℕ → List ℕ
page_at unit image at = take 1024 (drop (at * unit) image)

-- the cell names the page's place, which lies in the image and is read as the page
pub record StandsAt (unit : ℕ) (image : List ℕ) (root : Cell) (p : Page) : Type 0 where
  pub place : root ≡ place_of p
  pub inside : p.at * unit + 1024 ≤ length image
  pub reads : ReadsAs p (page_at unit image p.at)

-- the cell leads along these pages to the next cell; `unit` is the bytes in a block
abbrev pub Leads : ℕ → List ℕ → Cell → List Page → Cell → Type 0
Leads unit image root [] next = root ≡ next
Leads unit image root (p ∷ ps) next = StandsAt unit image root p × Leads unit image p.link ps next

-- the image has a chain of these pages from the root cell on
abbrev pub Chain : ℕ → List ℕ → Cell → List Page → Type 0
Chain unit image root pages = Leads unit image root pages no_cell

-- the two pages have no byte in common
abbrev pub AreApart : ℕ → Page → Page → Type 0
AreApart unit p q = (p.at * unit + 1024 ≤ q.at * unit) ⊎ (q.at * unit + 1024 ≤ p.at * unit)

-- the page's bytes are the same in the other image
pub record IsKept (unit : ℕ) (image other : List ℕ) (p : Page) : Type 0 where
  pub inside : p.at * unit + 1024 ≤ length other
  pub same : (k : ℕ) → p.at * unit ≤ k → k < p.at * unit + 1024 → slice_index other k ≡ slice_index image k

-- and each is in range, and no two are of one space and index
pub record HasPages (unit : ℕ) (image : List ℕ) (root : Cell) (pages : List Page) : Type 0 where
  pub chain : Chain unit image root pages
  pub in_range : All IsInRange pages
  pub distinct : AllPairs IsOther pages
