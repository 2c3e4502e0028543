use Rattle.std.proofs.Common.{◌≡◌, ◌<◌, ◌+◌, ◌*◌, ℕ, true, get_or}
use Rattle.oc_pages.specs.Pages.{is_empty, no_cell}
use Rattle.oc_pages.proofs.page.is_in_range.Given as goal

abbrev pub invariant-loop-k : goal.invariant-loop-k
invariant-loop-k l = (j : ℕ) → j < l.k → 2147483646 < l.page.index * 126 + j + 1 → is_empty (get_or l.page.cells j no_cell) ≡ true
