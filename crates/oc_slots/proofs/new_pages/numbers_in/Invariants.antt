use Rattle.std.proofs.Common.{◌≡◌, ◌++◌, drop}
use Rattle.oc_slots.specs.Turnovers.{numbers_in}
use Rattle.oc_slots.proofs.new_pages.numbers_in.Given as goal

abbrev pub invariant-loop-pointing : goal.invariant-loop-pointing
invariant-loop-pointing l = l.numbers.items ++ numbers_in l.space (drop l.pointing-index l.pointings) ≡ numbers_in l.space l.pointings
