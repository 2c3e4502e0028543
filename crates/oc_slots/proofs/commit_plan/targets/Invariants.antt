use Rattle.std.proofs.Common.{◌≡◌, length, take}
use Rattle.oc_slots.specs.Pointings.{writes_of}
use Rattle.oc_slots.proofs.commit_plan.targets.Given as goal

abbrev pub invariant-loop-pointing : goal.invariant-loop-pointing
invariant-loop-pointing l = l.count ≡ length (writes_of (take l.pointing-index l.pointings))
