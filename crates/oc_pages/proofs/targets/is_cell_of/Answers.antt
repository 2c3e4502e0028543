use Rattle.std.proofs.Common.{rules, arith, ◌≡◌, ◌∙◌, ℕ, ◌-◌, ◌<◌, ◌≤◌, ◌%◌, ap, sym}
use Rattle.std.proofs.lemmas.Bool.Decides.{nat_tests}
use Rattle.oc_pages.proofs.CellPlaces.{cell_is}
use Rattle.oc_pages.proofs.targets.is_cell_of.Goals as goal
use Rattle.oc_pages.proofs.targets.is_cell_of.Goals.{then-place-ge-FIRST_CELL, else-place-ge-FIRST_CELL}

pub returns-then-place-clause-yes : goal.returns-then-place-clause-yes
returns-then-place-clause-yes c even =
    let place : c.saturating_sub-place.result ≡ c.args.target - c.args.start = search rules in
    let multiple : c.saturating_sub-place.result % 8 ≡ 0 = grind (arith, nat_tests, even) in
    let low : 16 ≤ c.saturating_sub-place.result = search rules in
    let high : c.saturating_sub-place.result < 1024 = search rules in
    cell_is c.args.start c.args.target (omega (arith, place, low)) (omega (arith, place, high)) (sym (ap (λ (n : ℕ). n % 8) place) ∙ multiple)
