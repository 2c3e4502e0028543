use Rattle.std.proofs.Common.{◌≡◌, map, take, flat_map}
use Rattle.oc_index.proofs.field_index.numbers_in.Given as goal

-- those of the slices so far
abbrev pub invariant-loop-entries : goal.invariant-loop-entries
invariant-loop-entries l = l.numbers.items ≡ map (λ e. e.number) (flat_map (λ s. s.now) (take l.entries-index l.slices))
