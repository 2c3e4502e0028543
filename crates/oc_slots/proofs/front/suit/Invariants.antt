use Rattle.std.proofs.Common.{take}
use Rattle.std.specs.Prelude.{All}
use Rattle.oc_slots.specs.Attaching.{SuitsTarget}
use Rattle.oc_slots.proofs.front.suit.Given as goal

abbrev pub invariant-loop-write : goal.invariant-loop-write
invariant-loop-write l = All (SuitsTarget l.header l.len) (take l.write-index l.writes)
