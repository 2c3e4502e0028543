use Rattle.std.proofs.Common.{◌≡◌, ◌≤◌, ◌+◌, drop, map}
use Rattle.oc_chunks.specs.Reading.{chunk_of}
use Rattle.oc_store.specs.Last.{numberless}
use Rattle.oc_store.proofs.writing.numberless.Given as goal

abbrev pub invariant-loop-chunk : goal.invariant-loop-chunk
invariant-loop-chunk g l = record {
  count : l.count + numberless (map chunk_of (drop l.chunk-index l.chunks)) ≡ numberless (map chunk_of l.chunks);
  few : l.count ≤ l.chunk-index;
}
