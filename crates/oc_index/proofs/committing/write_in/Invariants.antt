use Rattle.std.proofs.Common.{◌≡◌, ◌++◌, length, take, drop, flat_map}
use Rattle.oc_index.specs.Indexed.{ids_of, now_of, written_fields}
use Rattle.oc_index.proofs.committing.write_in.Given as goal

-- the fields so far are written, and the rest is as it was
abbrev pub invariant-loop-at : goal.invariant-loop-at
invariant-loop-at l = record {
  long : length l.fields.items ≡ length l.initial.fields.items;
  rest : drop l.at l.fields.items ≡ drop l.at l.initial.fields.items;
  ids : ids_of l.fields.items ≡ ids_of l.initial.fields.items;
  fields : flat_map now_of (take l.at l.fields.items) ++ written_fields l.spare (flat_map now_of (drop l.at l.initial.fields.items)) ≡ written_fields l.numbers (flat_map now_of l.initial.fields.items);
}
