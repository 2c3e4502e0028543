use Rattle.std.proofs.Common.{◌≡◌, drop}
use Rattle.oc_lists.specs.Following.{with_started}
use Rattle.oc_lists.proofs.indexing.start_all.Given as goal

abbrev pub invariant-loop-id : goal.invariant-loop-id
invariant-loop-id l = record {
  extents : l.indexes.extents ≡ l.fn.indexes.extents;
  fields : with_started (drop l.id-index l.started) l.indexes.fields ≡ with_started l.started l.fn.indexes.fields;
  marked : l.indexes.marked ≡ l.fn.indexes.marked;
}
