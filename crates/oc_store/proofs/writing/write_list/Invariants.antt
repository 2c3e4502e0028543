use Rattle.std.proofs.Common.{◌≡◌, ◌++◌, drop, map}
use Rattle.oc_model.specs.Spelling.{segment_bytes}
use Rattle.oc_chunks.specs.Ascending.{Each}
use Rattle.oc_chunks.specs.Chunks.{numbers}
use Rattle.oc_chunks.specs.Opening.{written}
use Rattle.oc_chunks.specs.Reading.{chunk_of}
use Rattle.oc_segments.specs.Segments.{AreEntries}
use Rattle.oc_store.specs.Last.{planned, segment_of, system_change, written_segments}
use Rattle.oc_store.proofs.writing.write_list.Given as goal

-- the chunks so far are written, and the rest is still to write
abbrev pub invariant-loop-chunk : goal.invariant-loop-chunk
invariant-loop-chunk g l = record {
  segments : l.segments ++ numbers (written l.spare (map chunk_of (drop l.chunk-index l.chunks))) ≡ numbers (written l.fn.numbers (map chunk_of l.chunks));
  changes : l.changes.items ++ map system_change (written_segments (planned l.spare (map (segment_of (segment_bytes (g.E.Item.spell l.base))) (map chunk_of (drop l.chunk-index l.chunks)))))
      ≡ l.fn.changes.items ++ map system_change (written_segments (planned l.fn.numbers (map (segment_of (segment_bytes (g.E.Item.spell l.base))) (map chunk_of l.chunks))));
  entries : Each (λ c. AreEntries g.E.Entry.order (g.E.Item.fits l.base) c.entries) (map chunk_of (drop l.chunk-index l.chunks));
}
