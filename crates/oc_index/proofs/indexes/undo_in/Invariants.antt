use Rattle.std.proofs.Common.{◌≡◌, ◌++◌, map, take, drop}
use Rattle.oc_index.specs.Indexed.{undone_field}
use Rattle.oc_index.proofs.indexes.undo_in.Given as goal

-- each so far is done
abbrev pub invariant-loop-at : goal.invariant-loop-at
invariant-loop-at l = l.fields.items ≡ map undone_field (take l.at l.initial.fields.items) ++ drop l.at l.initial.fields.items
