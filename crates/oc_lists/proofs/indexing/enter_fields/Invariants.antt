use Rattle.std.proofs.Common.{◌≡◌, None, Some, drop, map}
use Rattle.oc_lists.specs.Moving.{AreMoved}
use Rattle.oc_lists.proofs.Refiled.{Comes}
use Rattle.oc_lists.proofs.indexing.enter_fields.Given as goal

abbrev pub invariant-loop-field : goal.invariant-loop-field
invariant-loop-field l = record {
  moved : AreMoved l.fn.indexes l.indexes;
  extents : l.indexes.extents ≡ l.fn.indexes.extents;
  entries : Comes l.number None (Some l.rec) (map (λ f. f.now) (drop l.field-index l.fields)) (map (λ f. f.now) l.fields) l.fn.indexes l.indexes;
}
