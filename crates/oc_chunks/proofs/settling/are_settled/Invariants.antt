use Rattle.std.proofs.Common.{drop, take}
use Rattle.oc_chunks.specs.Ascending.{Each}
use Rattle.oc_chunks.specs.Pieces.{IsSized}
use Rattle.oc_chunks.specs.Settling.{IsSettled}
use Rattle.oc_chunks.proofs.settling.are_settled.Given as goal

-- the pieces so far are settled
abbrev pub invariant-loop-piece : goal.invariant-loop-piece
invariant-loop-piece g l = record {
  settled : Each IsSettled (take l.piece-index l.pieces);
  sized : Each IsSized (drop l.piece-index l.pieces);
}
