use Rattle.std.proofs.Common.{◌≡◌, ◌++◌, take, flat_map}
use Rattle.oc_chunks.specs.Between.{entries_in}
use Rattle.oc_chunks.proofs.between.slices.Given as goal

-- the slices so far
abbrev pub invariant-loop-piece : goal.invariant-loop-piece
invariant-loop-piece g l = flat_map (λ s. s.now) l.slices.items ≡ l.span.first.now ++ entries_in (take l.piece-index l.span.pieces.now)
