use Rattle.std.proofs.Common.{take, IsSome}
use Rattle.oc_chunks.specs.Ascending.{Each}
use Rattle.oc_chunks.proofs.writing.are_numbered.Given as goal

-- the pieces so far have numbers
abbrev pub invariant-loop-piece : goal.invariant-loop-piece
invariant-loop-piece g l = Each (λ p. IsSome p.part.number) (take l.piece-index l.pieces)
