use Rattle.std.proofs.Common.{◌≡◌, ◌+◌, ◌^◌, ◌-◌, length, take, min}
use Rattle.oc_chunks.specs.Between.{entries_in}
use Rattle.oc_chunks.proofs.between.len_of.Given as goal

-- how many there are so far
abbrev pub invariant-loop-piece : goal.invariant-loop-piece
invariant-loop-piece g l = l.len ≡ min (length l.span.first.now + length (entries_in (take l.piece-index l.span.pieces.now))) (2 ^ 64 - 1)
