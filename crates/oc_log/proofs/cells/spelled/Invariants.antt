use Rattle.std.proofs.Common.{◌≡◌, ◌++◌, drop}
use Rattle.oc_log.specs.Runs.{cells_bytes}
use Rattle.oc_log.proofs.cells.spelled.Given as goal

abbrev pub invariant-loop-write : goal.invariant-loop-write
invariant-loop-write l = l.bytes.items ++ cells_bytes (drop l.write-index l.writes) ≡ cells_bytes l.writes
