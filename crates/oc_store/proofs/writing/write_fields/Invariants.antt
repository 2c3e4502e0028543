use Rattle.std.proofs.Common.{◌≡◌, ◌++◌, drop, take, map}
use Rattle.oc_chunks.specs.Ascending.{Each}
use Rattle.oc_chunks.specs.Opening.{IsList}
use Rattle.oc_index.specs.Indexed.{written_fields}
use Rattle.oc_index.specs.Items.{index_cmp}
use Rattle.oc_store.specs.Last.{field_segments, planned, system_change, written_segments}
use Rattle.oc_store.specs.Outlines.{named}
use Rattle.oc_store.proofs.writing.write_fields.Given as goal

-- the indexes so far are written, and the rest is still to write
abbrev pub invariant-loop-id : goal.invariant-loop-id
invariant-loop-id l = record {
  chunks : Each (λ f. IsList index_cmp (f.1).chunks) (take l.id-index l.lists.fields);
  entries : l.entries.items ++ map named (written_fields l.spare (drop l.id-index l.lists.fields)) ≡ l.fn.entries.items ++ map named (written_fields l.fn.numbers l.lists.fields);
  changes : l.changes.items ++ map system_change (written_segments (planned l.spare (field_segments (drop l.id-index l.lists.fields)))) ≡ l.fn.changes.items ++ map system_change (written_segments (planned l.fn.numbers (field_segments l.lists.fields)));
}
