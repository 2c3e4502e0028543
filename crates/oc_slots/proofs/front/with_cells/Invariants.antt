use Rattle.std.proofs.Common.{◌≡◌, drop}
use Rattle.oc_slots.specs.Attaching.{with_cells}
use Rattle.oc_slots.proofs.front.with_cells.Given as goal

abbrev pub invariant-loop-write : goal.invariant-loop-write
invariant-loop-write l = with_cells l.put (drop l.write-index l.writes) ≡ with_cells l.header l.writes
