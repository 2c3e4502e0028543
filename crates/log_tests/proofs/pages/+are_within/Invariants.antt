use Rattle.std.proofs.Common.{ℕ, length}
use Rattle.log_tests.proofs.pages.+are_within.Given as goal

abbrev pub decreases-are_within : goal.decreases-are_within
decreases-are_within l = length l.cells.now
