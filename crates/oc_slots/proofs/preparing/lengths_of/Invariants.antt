use Rattle.std.proofs.Common.{◌≡◌, take}
use Rattle.oc_slots.specs.Slots.{lengths_of}
use Rattle.oc_slots.proofs.preparing.lengths_of.Given as goal

abbrev pub invariant-loop-change : goal.invariant-loop-change
invariant-loop-change l = l.lengths.items ≡ lengths_of (take l.change-index l.changes)
