use Rattle.std.proofs.Common.{◌≡◌, ◌++◌, map, filter, take}
use Rattle.oc_model.specs.Maps.{is_in}
use Rattle.oc_index.proofs.extents.push_of.Given as goal

-- those of the entries so far
abbrev pub invariant-loop-entry : goal.invariant-loop-entry
invariant-loop-entry l = l.numbers.items ≡ l.initial.numbers.items ++ map (λ e. e.number) (filter (λ e. is_in l.classes e.class) (take l.entry-index l.entries))
