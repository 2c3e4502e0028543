use Rattle.std.specs.List.{AllWithin}
use Rattle.oc_chunks.specs.Pieces.{IsLater}
use Rattle.oc_chunks.proofs.search.first_begun.Given as goal

-- none of the pieces so far has begun
abbrev pub invariant-loop-at : goal.invariant-loop-at
invariant-loop-at g l = AllWithin (IsLater (g.C.Cut.side l.cut)) l.pieces l.from l.at
