use Rattle.std.proofs.Common.{◌≡◌, false, take}
use Rattle.oc_chunks.specs.Ascending.{Each}
use Rattle.oc_index.specs.Indexed.{is_of}
use Rattle.oc_index.proofs.indexes.place_in.Given as goal

-- none so far is of this field
abbrev pub invariant-loop-at : goal.invariant-loop-at
invariant-loop-at l = Each (λ f. is_of l.id f ≡ false) (take l.at l.fields)
