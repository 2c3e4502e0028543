use Rattle.std.proofs.Common.{ℕ}
use Rattle.std.specs.Prelude.{◌↔◌, Contains}
use Rattle.oc_pages.proofs.Listings.{IsAmong}
use Rattle.oc_pages.proofs.pages.Pages.numbers.Given as goal

abbrev pub invariant-loop-place : goal.invariant-loop-place
invariant-loop-place l = (number : ℕ) → Contains l.numbers.items number ↔ IsAmong l.space l.self-inside.table.pages l.place number
