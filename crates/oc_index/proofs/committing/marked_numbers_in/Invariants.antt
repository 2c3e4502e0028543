use Rattle.std.proofs.Common.{◌≡◌, ◌++◌, take, flat_map}
use Rattle.oc_chunks.specs.Chunks.{numbers}
use Rattle.oc_index.specs.Indexed.{then_of}
use Rattle.oc_index.proofs.committing.marked_numbers_in.Given as goal

-- the numbers of the fields so far
abbrev pub invariant-loop-field : goal.invariant-loop-field
invariant-loop-field l = l.numbers.items ≡ l.initial.numbers.items ++ flat_map (λ f. numbers f.1.chunks) (flat_map then_of (take l.field-index l.fields))
