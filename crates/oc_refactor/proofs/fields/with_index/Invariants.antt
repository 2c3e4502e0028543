use Rattle.std.proofs.Common.{◌≡◌, ◌++◌, map, drop}
use Rattle.oc_refactor.specs.Fields.{indexed_at}
use Rattle.oc_refactor.proofs.fields.with_index.Given as goal

abbrev pub invariant-loop-field : goal.invariant-loop-field
invariant-loop-field l = l.copies ++ map (indexed_at l.id l.on) (drop l.field-index l.fields) ≡ map (indexed_at l.id l.on) l.fields
