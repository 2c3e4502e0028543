use Rattle.std.proofs.Common.{◌≡◌, ◌++◌, drop, map}
use Rattle.oc_index.specs.declared.items.ExtentItem.{ExtentItem}
use Rattle.oc_chunks.specs.Chunks.{joined}
use Rattle.oc_chunks.specs.Reading.{chunk_of}
use Rattle.oc_store.proofs.checking.numbers_of.Given as goal

abbrev pub invariant-loop-chunk : goal.invariant-loop-chunk
invariant-loop-chunk l = l.numbers.items ++ map (λ (e : ExtentItem). e.number) (joined (map chunk_of (drop l.chunk-index l.chunk-items))) ≡ map (λ (e : ExtentItem). e.number) (joined l.extents.chunks)
