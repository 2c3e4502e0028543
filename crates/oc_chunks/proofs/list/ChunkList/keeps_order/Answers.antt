use Rattle.std.proofs.Common.{subst}
use Rattle.oc_chunks.specs.Ascending.{IsAscending}
use Rattle.oc_chunks.specs.Chunks.{joined}
use Rattle.oc_chunks.proofs.Read.{chunks_ascend}
use Rattle.oc_chunks.proofs.list.ChunkList.keeps_order.Goals as goal

pub returns : goal.returns
returns g c = subst (λ l. IsAscending g.E.Entry.order (joined l.chunks)) c.self.view_is (chunks_ascend g.E.Entry.order c.self.inside.pieces.items c.self.invariant.sound)
