use Rattle.std.proofs.Common.{map, take}
use Rattle.oc_chunks.specs.Chunks.{joined}
use Rattle.oc_chunks.specs.Cutting.{IsWide}
use Rattle.oc_chunks.specs.Opening.{chunk_read}
use Rattle.oc_chunks.proofs.widths.widest_of.Given as goal

-- none of the chunks so far is wider
abbrev pub invariant-loop-chunk : goal.invariant-loop-chunk
invariant-loop-chunk g l = IsWide g.E.Entry.bytes l.widest (joined (map chunk_read (take l.chunk-index l.chunks)))
