use Rattle.std.proofs.Common.{arith}
use Rattle.oc_chunks.proofs.Wide.{wide_chunks}
use Rattle.oc_chunks.proofs.widths.widest_of.Goals as goal

pub loop-chunk-preserved : goal.loop-chunk-preserved
loop-chunk-preserved g c = wide_chunks g.E.Entry.bytes c.widest_in-widest.result c.args.chunks.now c.loop-chunk.widest c.loop-chunk.chunk-index c.chunk-item.result c.as_slice.result.now (omega arith) c.chunk-item.is c.as_slice.ensures.value c.widest_in-widest.ensures.more c.widest_in-widest.ensures.wide c.loop-chunk.invariant
