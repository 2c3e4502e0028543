use Rattle.std.proofs.Common.{◌≡◌, ◌∙◌, ◌+◌, ◌++◌, ap, drop, map}
use Rattle.std.specs.Option.{option_to_list}
use Rattle.oc_model.specs.Spelling.{segment_bytes}
use Rattle.oc_chunks.specs.Chunks.{numbers}
use Rattle.oc_chunks.specs.Opening.{number_from, written}
use Rattle.oc_chunks.specs.Reading.{chunk_of}
use Rattle.oc_segments.specs.Segments.{AreEntries}
use Rattle.oc_store.specs.Last.{planned, planned_as, segment_of}
use Rattle.oc_store.proofs.Writings.{changes_for, changes_step, each_step, numbers_step}
use Rattle.oc_store.proofs.writing.write_list.Goals as goal

pub write_chunk-requires : goal.write_chunk-requires
write_chunk-requires g c =
    (each_step c.args.chunks.now c.loop-chunk.chunk-index c.chunk-item.result c.loop-chunk-test.true c.chunk-item.is (λ k. AreEntries g.E.Entry.order (g.E.Item.fits c.args.base) k.entries) c.loop-chunk.invariant.entries).0

pub loop-chunk-preserved : goal.loop-chunk-preserved
loop-chunk-preserved g c =
    let i = c.loop-chunk.chunk-index in
    let vs = c.args.chunks.now in
    let v = c.chunk-item.result in
    let inv = c.loop-chunk.invariant in
    let lt = c.loop-chunk-test.true in
    let spare = c.loop-chunk.spare.now in
    let bytes = segment_bytes (g.E.Item.spell c.args.base) in
    let number = c.number_from-number.ensures in
    let grown : c.write_chunk.new.segments ≡ c.loop-chunk.segments ++ option_to_list (number_from v.number spare) = c.in_ok-write_chunk.ensures.segments ∙ ap (λ o. c.loop-chunk.segments ++ option_to_list o) number in
    let more : c.write_chunk.new.changes.items ≡ c.loop-chunk.changes.items ++ changes_for (planned_as (number_from v.number spare) (segment_of bytes (chunk_of v))) =
    c.in_ok-write_chunk.ensures.changes ∙ ap (λ o. c.loop-chunk.changes.items ++ changes_for (planned_as o (segment_of bytes (chunk_of v)))) number in
    record {
      segments = ap (λ k. c.write_chunk.new.segments ++ numbers (written k (map chunk_of (drop (i + 1) vs)))) c.spare_behind-spare.ensures ∙ numbers_step vs i v lt c.chunk-item.is c.loop-chunk.segments c.write_chunk.new.segments spare (numbers (written c.args.numbers.now (map chunk_of vs))) grown inv.segments;
      changes = ap (λ k. c.write_chunk.new.changes.items ++ changes_for (planned k (map (segment_of bytes) (map chunk_of (drop (i + 1) vs))))) c.spare_behind-spare.ensures
          ∙ changes_step vs i v lt c.chunk-item.is bytes spare c.loop-chunk.changes.items c.write_chunk.new.changes.items (c.args.changes.now.items ++ changes_for (planned c.args.numbers.now (map (segment_of bytes) (map chunk_of vs)))) more inv.changes;
      entries = (each_step vs i v lt c.chunk-item.is (λ k. AreEntries g.E.Entry.order (g.E.Item.fits c.args.base) k.entries) inv.entries).1;
    }
