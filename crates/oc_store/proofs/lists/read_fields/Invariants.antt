use Rattle.std.proofs.Common.{◌≡◌, ◌≤◌, ◌+◌, ℕ, Some, take, drop, map}
use Rattle.std.specs.Prelude.{IsTrue}
use Rattle.std.specs.List.{list_all}
use Rattle.oc_host.specs.Disk.{Looks}
use Rattle.oc_model.specs.Lists.{IsOneOf}
use Rattle.oc_chunks.specs.Ascending.{Each}
use Rattle.oc_chunks.specs.Chunks.{joined}
use Rattle.oc_index.specs.Fields.{FieldList}
use Rattle.oc_catalog.specs.Catalogs.{segments_of}
use Rattle.oc_segments.specs.Items.{index_stands}
use Rattle.oc_slots.specs.Stores.{committed, Agrees}
use Rattle.oc_store.specs.Listed.{is_segment, lists_len}
use Rattle.oc_lists.specs.Lists.{bases_in}
use Rattle.oc_store.specs.Outlines.{named, IsIndex}
use Rattle.oc_store.specs.Sides.{IsWritten}
use Rattle.oc_store.proofs.lists.read_fields.Given as goal

-- the indexes so far are those of the first lists, and the rest is still to read
abbrev pub invariant-loop-list : goal.invariant-loop-list
invariant-loop-list g l = record {
  extents : (l.indexes).extents ≡ (l.fn.indexes).extents;
  named : map named (l.indexes).fields ≡ take l.list-index l.lists;
  marked : (l.indexes).marked ≡ (l.indexes).fields;
  each : Each (λ (f : ℕ × FieldList). (f.1).marked ≡ (f.1).chunks) (l.indexes).fields;
  written : Each (λ (f : ℕ × FieldList). Each IsWritten (f.1).chunks) (l.indexes).fields;
  writable : Each (λ (f : ℕ × FieldList). IsTrue (list_all (index_stands (Some (f.1).base)) (joined (f.1).chunks))) (l.indexes).fields;
  there : IsTrue (list_all (is_segment l.slots) (segments_of (take l.list-index l.lists)));
  bases : Each (λ (f : ℕ × FieldList). IsOneOf (f.0, (f.1).base) (bases_in l.schema)) (l.indexes).fields;
  sound : IsTrue g.H.Host.tells → Each (IsIndex (committed l.slots (g.H.Host.disk l.fn.host)) l.schema) (l.indexes).fields;
  agrees : IsTrue g.H.Host.tells → Agrees l.slots (g.H.Host.disk l.host);
  looks : IsTrue g.H.Host.tells → Looks (g.H.Host.disk l.fn.host) (g.H.Host.disk l.host);
  later : g.H.Host.faults l.fn.host ≤ g.H.Host.faults l.host;
  taken : g.H.Host.taken l.host + lists_len l.slots (drop l.list-index l.lists) ≤ g.H.Host.taken l.fn.host + lists_len l.slots l.lists;
}
