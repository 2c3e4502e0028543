use Rattle.std.proofs.Common.{◌≡◌, drop}
use Rattle.oc_lists.proofs.Ended.{ended}
use Rattle.oc_lists.proofs.indexing.end_others.Given as goal

abbrev pub invariant-loop-id : goal.invariant-loop-id
invariant-loop-id l = record {
  extents : l.indexes.extents ≡ l.fn.indexes.extents;
  fields : ended l.schema (drop l.id-index l.id-items) l.indexes.fields ≡ ended l.schema l.id-items l.fn.indexes.fields;
  marked : l.indexes.marked ≡ l.fn.indexes.marked;
}
