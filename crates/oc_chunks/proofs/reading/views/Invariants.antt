use Rattle.std.proofs.Common.{◌≡◌, map, take, flat_map}
use Rattle.oc_chunks.specs.Pieces.{chunks_now}
use Rattle.oc_chunks.specs.Reading.{chunk_of}
use Rattle.oc_chunks.proofs.reading.views.Given as goal

-- the chunks so far
abbrev pub invariant-loop-piece : goal.invariant-loop-piece
invariant-loop-piece g l = map chunk_of l.views.items ≡ flat_map chunks_now (take l.piece-index l.pieces)
