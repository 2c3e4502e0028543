use Rattle.std.proofs.Common.{◌≡◌, take, flat_map}
use Rattle.oc_chunks.specs.Ascending.{Each}
use Rattle.oc_index.specs.Indexed.{now_of, then_of}
use Rattle.oc_index.proofs.indexes.are_marked.Given as goal

-- the indexes so far are as they were
abbrev pub invariant-loop-field : goal.invariant-loop-field
invariant-loop-field l = record {
  then : flat_map then_of (take l.field-index l.fields) ≡ flat_map now_of (take l.field-index l.fields);
  each : Each (λ f. (f.1).marked ≡ (f.1).chunks) (flat_map now_of (take l.field-index l.fields));
}
