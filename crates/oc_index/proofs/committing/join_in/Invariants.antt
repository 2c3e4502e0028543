use Rattle.std.proofs.Common.{◌≡◌, length, take, drop, flat_map}
use Rattle.oc_chunks.specs.Ascending.{Each}
use Rattle.oc_index.specs.Indexed.{ids_of, now_of, then_of, IsJoined, JoinsFields}
use Rattle.oc_index.proofs.committing.join_in.Given as goal

-- the fields so far are joined, and the rest is as it was
abbrev pub invariant-loop-at : goal.invariant-loop-at
invariant-loop-at l = record {
  long : length l.fields.items ≡ length l.initial.fields.items;
  rest : drop l.at l.fields.items ≡ drop l.at l.initial.fields.items;
  ids : ids_of l.fields.items ≡ ids_of l.initial.fields.items;
  marked : flat_map then_of l.fields.items ≡ flat_map then_of l.initial.fields.items;
  fields : JoinsFields (flat_map now_of (take l.at l.initial.fields.items)) (flat_map now_of (take l.at l.fields.items));
  none : Each IsJoined (flat_map now_of (take l.at l.fields.items));
}
