use Rattle.std.proofs.Common.{◌≡◌, ◌++◌, ◌∷◌, take}
use Rattle.std.specs.Prelude.{filter, not}
use Rattle.oc_pages.specs.Pages.{is_empty, place_of}
use Rattle.oc_pages.proofs.listing.put_things.Given as goal

abbrev pub invariant-loop-cell : goal.invariant-loop-cell
invariant-loop-cell l = l.things.items ≡ l.fn.things.items ++ place_of l.page ∷ filter (λ c. not (is_empty c)) (take l.cell-index l.page.cells)
