use Rattle.std.proofs.Common.{arith}
use Rattle.oc_chunks.proofs.Opened.{then_more}
use Rattle.oc_chunks.proofs.writing.marked_numbers.Goals as goal

pub loop-piece-preserved : goal.loop-piece-preserved
loop-piece-preserved g c = then_more g.E.Entry.order c.loop-piece.numbers.items c.push_number.new.numbers.items c.args.pieces.now c.loop-piece.piece-index c.piece-item.result (omega arith) c.piece-item.is c.loop-piece.invariant c.in_ok-push_number.ensures
