use Rattle.std.proofs.Common.{◌+◌, arith, drop, map}
use Rattle.std.specs.Prelude.{is_some}
use Rattle.oc_chunks.specs.Reading.{chunk_of}
use Rattle.oc_store.specs.Last.{numberless}
use Rattle.oc_store.proofs.Writings.{count_step, count_turn, one_most}
use Rattle.oc_store.proofs.writing.numberless.Goals as goal

pub loop-chunk-preserved : goal.loop-chunk-preserved
loop-chunk-preserved g c =
    let vs = c.args.chunks.now in
    let i = c.loop-chunk.chunk-index in
    let v = c.chunk-item.result in
    let most = one_most (is_some v.number) c.one_without-count.result c.one_without-count.ensures in
    record {
      count = count_turn (is_some v.number) c.one_without-count.result (numberless (map chunk_of (drop i vs))) (numberless (map chunk_of (drop (i + 1) vs))) c.loop-chunk.count (numberless (map chunk_of vs)) c.one_without-count.ensures (count_step vs i v c.loop-chunk-test.true c.chunk-item.is) c.loop-chunk.invariant.count;
      few = omega (arith, most, c.loop-chunk.invariant.few);
    }
