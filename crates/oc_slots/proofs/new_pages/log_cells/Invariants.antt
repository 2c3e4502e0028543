use Rattle.std.proofs.Common.{◌≡◌, ◌++◌, drop}
use Rattle.oc_slots.specs.Pointings.{writes_of}
use Rattle.oc_slots.specs.Turnovers.{root_writes}
use Rattle.oc_slots.proofs.new_pages.log_cells.Given as goal

abbrev pub invariant-loop-pointing : goal.invariant-loop-pointing
invariant-loop-pointing l = l.cells.items ++ writes_of (drop l.pointing-index l.pointings) ≡ root_writes l.header l.added ++ writes_of l.pointings
