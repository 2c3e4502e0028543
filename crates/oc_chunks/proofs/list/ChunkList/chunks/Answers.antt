use Rattle.std.proofs.Common.{subst}
use Rattle.oc_chunks.specs.Ascending.{Each, IsAscending}
use Rattle.oc_chunks.specs.Chunks.{IsSizedChunk, joined}
use Rattle.oc_chunks.proofs.Read.{chunks_sized, chunks_ascend}
use Rattle.oc_chunks.proofs.list.ChunkList.chunks.Goals as goal

pub returns-clause-sized : goal.returns-clause-sized
returns-clause-sized g c = subst (λ l. Each IsSizedChunk l.chunks) c.self.view_is (chunks_sized c.self.inside.pieces.items c.self.invariant.sound.sized)

pub returns-clause-ascending : goal.returns-clause-ascending
returns-clause-ascending g c = subst (λ l. IsAscending g.E.Entry.order (joined l.chunks)) c.self.view_is (chunks_ascend g.E.Entry.order c.self.inside.pieces.items c.self.invariant.sound)
