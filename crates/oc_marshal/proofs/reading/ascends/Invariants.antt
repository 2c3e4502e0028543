use Rattle.std.proofs.Common.{◌≡◌, length}
use Rattle.oc_marshal.specs.Records.{is_ascending}
use Rattle.oc_marshal.proofs.reading.ascends.Given as goal

abbrev pub invariant-loop-rest : goal.invariant-loop-rest
invariant-loop-rest l = is_ascending l.rest ≡ is_ascending l.entries

abbrev pub decreases-loop-rest : goal.decreases-loop-rest
decreases-loop-rest l = length l.rest
