-- The draft of a log.
use Rattle.std.specs.Prelude.{ℕ, Bool, List}
use Rattle.oc_layout.specs.declared.cells.CellWrite.{CellWrite}

-- What contracts see of a draft: the cells that its log puts in, the form of the log, and the bytes in a block of the file that it is for.
pub record Plan : Type 0 where
  pub writes : List CellWrite
  pub wide : Bool
  pub unit : ℕ
