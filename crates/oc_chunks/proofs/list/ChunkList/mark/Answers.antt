use Rattle.std.proofs.Common.{◌∙◌, ap, sym}
use Rattle.oc_chunks.proofs.Settled.{settled_thens}
use Rattle.oc_chunks.proofs.list.ChunkList.mark.Goals as goal

pub returns-then-self-clause-marked : goal.returns-then-self-clause-marked
returns-then-self-clause-marked g c =
    let stored = rw c.if-self.true at c.self.invariant.stored in
    ap (λ l. l.marked) (sym c.self.view_is) ∙ settled_thens g.E.Entry.order c.self.inside.pieces.items stored.settled ∙ ap (λ l. l.chunks) c.self.view_is
