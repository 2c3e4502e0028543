-- A chunk that is read.
use Rattle.oc_chunks.specs.declared.reading.ChunkView.{ChunkView}
use Rattle.oc_chunks.specs.Chunks.{Chunk}

-- the chunk
abbrev pub chunk_of : {X : Type 0} → ChunkView X → Chunk X
chunk_of v = record { entries = v.entries.now; number = v.number; changed = v.changed }
