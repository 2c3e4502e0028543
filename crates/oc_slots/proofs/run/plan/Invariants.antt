use Rattle.std.proofs.Common.{take}
use Rattle.oc_slots.specs.Slots.{slots_of}
use Rattle.oc_slots.specs.Pieces.{IsPlanned}
use Rattle.oc_slots.proofs.run.plan.Given as goal

abbrev pub invariant-loop-change : goal.invariant-loop-change
invariant-loop-change l = IsPlanned l.unit l.len (slots_of (take l.change-index l.placed)) l.planned
