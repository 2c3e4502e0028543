use Rattle.std.proofs.Common.{◌≡◌, drop, map}
use Rattle.oc_chunks.specs.Opening.{spare_of}
use Rattle.oc_chunks.specs.Reading.{chunk_of}
use Rattle.oc_store.proofs.writing.left_of.Given as goal

abbrev pub invariant-loop-chunk : goal.invariant-loop-chunk
invariant-loop-chunk g l = spare_of l.spare (map chunk_of (drop l.chunk-index l.chunks)) ≡ spare_of l.fn.numbers (map chunk_of l.chunks)
