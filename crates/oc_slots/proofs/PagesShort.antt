-- A file without room for a page has none.
use Rattle.std.proofs.Common.{◌≡◌, ℕ, ◌<◌, List, [], ◌∷◌, length, arith}
use Rattle.oc_layout.specs.declared.cells.Cell.{Cell}
use Rattle.oc_pages.specs.declared.page.Page.{Page}
use Rattle.oc_pages.specs.Pages.{no_cell}
use Rattle.oc_pages.specs.Chains.{HasPages}

pub no_page_fits : (unit : ℕ) (b : List ℕ) (root : Cell) (pages : List Page) → length b < 1024 → HasPages unit b root pages → root ≡ no_cell
no_page_fits unit b root [] lt has = has.chain
no_page_fits unit b root (p ∷ ps) lt has = let inside = has.chain.0.inside in absurd (omega (arith, inside, lt))
