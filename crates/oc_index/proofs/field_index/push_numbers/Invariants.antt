use Rattle.std.proofs.Common.{◌≡◌, ◌++◌, map, take}
use Rattle.oc_index.proofs.field_index.push_numbers.Given as goal

-- those of the entries so far
abbrev pub invariant-loop-entry : goal.invariant-loop-entry
invariant-loop-entry l = l.numbers.items ≡ l.initial.numbers.items ++ map (λ e. e.number) (take l.entry-index l.entries)
