use Rattle.std.proofs.Common.{arith}
use Rattle.oc_chunks.proofs.Read.{read_more}
use Rattle.oc_chunks.proofs.reading.views.Goals as goal

pub loop-piece-preserved : goal.loop-piece-preserved
loop-piece-preserved g c = read_more c.loop-piece.views.items c.push_view.new.views.items c.args.pieces.now c.loop-piece.piece-index c.piece-item.result (omega arith) c.piece-item.is c.loop-piece.invariant c.in_ok-push_view.ensures
