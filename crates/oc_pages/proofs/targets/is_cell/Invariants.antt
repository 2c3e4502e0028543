use Rattle.std.proofs.Common.{◌<◌, ℕ, get_or}
use Rattle.oc_pages.specs.Targets.{IsCellOf}
use Rattle.oc_pages.proofs.targets.is_cell.Given as goal

abbrev pub invariant-loop-start : goal.invariant-loop-start
invariant-loop-start l = (i : ℕ) → i < l.start-index → IsCellOf (get_or l.near i 0) l.target → ⊥
