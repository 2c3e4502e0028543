use Rattle.std.proofs.Common.{ℕ, take}
use Rattle.std.specs.Prelude.{◌↔◌, Contains}
use Rattle.oc_pages.specs.Pages.{IsMissing}
use Rattle.oc_pages.specs.Places.{chained}
use Rattle.oc_pages.proofs.pages.Pages.missing.Given as goal

abbrev pub invariant-loop-number : goal.invariant-loop-number
invariant-loop-number l = (index : ℕ) → Contains l.indexes.items index ↔ IsMissing (chained l.self-inside.loaded l.self-inside.table.pages) l.space (take l.number-index l.numbers) index
