use Rattle.std.proofs.Common.{◌≡◌, map, take, flat_map}
use Rattle.oc_index.specs.Indexed.{now_of}
use Rattle.oc_index.proofs.committing.indexed_in.Given as goal

-- those of the fields so far
abbrev pub invariant-loop-field : goal.invariant-loop-field
invariant-loop-field l = l.indexed.items ≡ map (λ f. (f.0, f.1.base)) (flat_map now_of (take l.field-index l.fields))
