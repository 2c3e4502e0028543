use Rattle.std.proofs.Common.{◌≡◌, map, filter, take}
use Rattle.oc_model.specs.Maps.{is_in}
use Rattle.oc_chunks.specs.Chunks.{joined}
use Rattle.oc_chunks.specs.Reading.{chunk_of}
use Rattle.oc_index.proofs.extents.Extents.of.Given as goal

-- those of the chunks so far
abbrev pub invariant-loop-chunk : goal.invariant-loop-chunk
invariant-loop-chunk l = l.numbers.items ≡ map (λ e. e.number) (filter (λ e. is_in l.classes e.class) (joined (map chunk_of (take l.chunk-index l.chunk-items))))
