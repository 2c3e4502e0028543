use Rattle.std.proofs.Common.{◌≡◌, take, flat_map}
use Rattle.oc_chunks.specs.Chunks.{numbers}
use Rattle.oc_chunks.specs.Pieces.{chunks_then}
use Rattle.oc_chunks.proofs.writing.marked_numbers.Given as goal

-- the numbers so far
abbrev pub invariant-loop-piece : goal.invariant-loop-piece
invariant-loop-piece g l = l.numbers.items ≡ numbers (flat_map (chunks_then g.E.Entry.order) (take l.piece-index l.pieces))
