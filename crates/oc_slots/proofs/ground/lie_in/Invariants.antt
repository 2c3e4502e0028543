use Rattle.std.proofs.Common.{take}
use Rattle.std.specs.Prelude.{All}
use Rattle.oc_slots.specs.Forms.{LiesIn}
use Rattle.oc_slots.proofs.ground.lie_in.Given as goal

abbrev pub invariant-loop-thing : goal.invariant-loop-thing
invariant-loop-thing l = All (LiesIn l.unit l.len) (take l.thing-index l.things)
