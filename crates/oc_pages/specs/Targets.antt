-- Which bytes of a file a number's cell begins at.
use Rattle.std.specs.Prelude.{◌≡◌, ◌<◌, ℕ, ◌+◌, ◌*◌, List, Some, Contains}
use Rattle.oc_layout.specs.declared.cells.Space.{Space}
use Rattle.oc_pages.specs.declared.page.Page.{Page}
use Rattle.oc_pages.specs.Pages.{target_of}

-- the byte is the first of the cell of some number, with `unit` bytes in a block
abbrev pub IsTargetIn : ℕ → List Page → ℕ → Type 0
IsTargetIn unit pages target = (space : Space) × (number : ℕ) × (target_of unit pages space number ≡ Some target)

-- the byte is the first of one of the 126 cells of a page that begins at the byte `start`
pub record IsCellOf (start target : ℕ) : Type 0 where
  pub slot : ℕ
  pub below : slot < 126
  pub here : target ≡ start + 16 + 8 * slot

-- the same of some page that begins at one of these bytes
pub record IsCellAmong (starts : List ℕ) (target : ℕ) : Type 0 where
  pub start : ℕ
  pub among : Contains starts start
  pub cell : IsCellOf start target
