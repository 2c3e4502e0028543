use Rattle.std.proofs.Common.{◌∙◌, ap, sym}
use Rattle.oc_chunks.proofs.Settled.{settled_thens}
use Rattle.oc_chunks.proofs.list.ChunkList.undo.Goals as goal

pub returns-then-self-clause-chunks : goal.returns-then-self-clause-chunks
returns-then-self-clause-chunks g c =
    let stored = rw c.if-self.true at c.self.invariant.stored in
    sym (ap (λ l. l.marked) (sym c.self.view_is) ∙ settled_thens g.E.Entry.order c.self.inside.pieces.items stored.settled ∙ ap (λ l. l.chunks) c.self.view_is)
