use Rattle.std.proofs.Common.{◌≡◌, take, map}
use Rattle.oc_store.specs.Changed.{slot_change}
use Rattle.oc_store.proofs.spelling.slot_changes.Given as goal

abbrev pub invariant-loop-change : goal.invariant-loop-change
invariant-loop-change l = l.spelled.items ≡ map slot_change (take l.change-index l.changes)
