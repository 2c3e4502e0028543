use Rattle.std.proofs.Common.{◌≡◌, ◌++◌, map, take, drop}
use Rattle.oc_index.specs.Indexed.{ended}
use Rattle.oc_index.proofs.indexes.end_in.Given as goal

-- those so far have ended, if they are of this field
abbrev pub invariant-loop-at : goal.invariant-loop-at
invariant-loop-at l = l.fields.items ≡ map (ended l.id) (take l.at l.initial.fields.items) ++ drop l.at l.initial.fields.items
