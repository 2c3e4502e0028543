use Rattle.std.proofs.Common.{take}
use Rattle.std.specs.Prelude.{All}
use Rattle.oc_pages.specs.Targets.{IsCellAmong}
use Rattle.oc_pages.proofs.targets.are_cells.Given as goal

abbrev pub invariant-loop-write : goal.invariant-loop-write
invariant-loop-write l = All (λ w. IsCellAmong l.starts w.target) (take l.write-index l.writes)
