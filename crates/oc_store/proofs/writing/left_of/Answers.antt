use Rattle.std.proofs.Common.{◌∙◌, ◌+◌, ap, drop, map}
use Rattle.oc_chunks.specs.Opening.{spare_of}
use Rattle.oc_chunks.specs.Reading.{chunk_of}
use Rattle.oc_store.proofs.Writings.{left_step}
use Rattle.oc_store.proofs.writing.left_of.Goals as goal

pub loop-chunk-preserved : goal.loop-chunk-preserved
loop-chunk-preserved g c =
    let i = c.loop-chunk.chunk-index in
    ap (λ k. spare_of k (map chunk_of (drop (i + 1) c.args.chunks.now))) c.spare_behind-spare.ensures
    ∙ left_step c.args.chunks.now i c.chunk-item.result c.loop-chunk-test.true c.chunk-item.is c.loop-chunk.spare.now (spare_of c.args.numbers.now (map chunk_of c.args.chunks.now)) c.loop-chunk.invariant
