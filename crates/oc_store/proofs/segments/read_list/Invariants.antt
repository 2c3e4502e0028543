use Rattle.std.proofs.Common.{◌≡◌, ◌≤◌, ◌+◌, [], take, drop, map}
use Rattle.std.specs.Prelude.{IsTrue}
use Rattle.std.specs.List.{list_all}
use Rattle.oc_host.specs.Disk.{Looks}
use Rattle.oc_chunks.specs.Chunks.{joined}
use Rattle.oc_chunks.specs.Opening.{chunk_read, IsList}
use Rattle.oc_segments.specs.Segments.{SpellsSegment}
use Rattle.oc_slots.specs.Stores.{committed, Agrees}
use Rattle.oc_store.specs.Listed.{is_segment, segments_len}
use Rattle.oc_store.specs.Lists.{AreNext}
use Rattle.oc_store.proofs.Readings.{numbers_of}
use Rattle.oc_store.proofs.segments.read_list.Given as goal

-- the chunks so far are sound, and the rest is still to read
abbrev pub invariant-loop-number : goal.invariant-loop-number
invariant-loop-number g l = record {
  list : IsList g.E.Entry.order (map chunk_read l.chunks.items);
  numbers : numbers_of l.chunks.items ≡ take l.number-index l.segments;
  writable : IsTrue (list_all (g.E.Item.stands l.base) (joined (map chunk_read l.chunks.items)));
  suit : IsTrue (list_all (g.E.Listed.suits l.schema) (joined (map chunk_read l.chunks.items)));
  there : IsTrue (list_all (is_segment l.slots) (take l.number-index l.segments));
  sound : IsTrue g.H.Host.tells → AreNext (SpellsSegment g.E.Entry.order (g.E.Item.stands l.base) (g.E.Item.spell l.base)) (committed l.slots (g.H.Host.disk l.fn.host)) g.E.Entry.order (g.E.Listed.suits l.schema) [] (map chunk_read l.chunks.items);
  agrees : IsTrue g.H.Host.tells → Agrees l.slots (g.H.Host.disk l.host);
  looks : IsTrue g.H.Host.tells → Looks (g.H.Host.disk l.fn.host) (g.H.Host.disk l.host);
  later : g.H.Host.faults l.fn.host ≤ g.H.Host.faults l.host;
  taken : g.H.Host.taken l.host + segments_len l.slots (drop l.number-index l.segments) ≤ g.H.Host.taken l.fn.host + segments_len l.slots l.segments;
}
