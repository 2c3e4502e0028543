use Rattle.std.proofs.Common.{◌≡◌, subst, true, flat_map}
use Rattle.oc_chunks.specs.Ascending.{has}
use Rattle.oc_chunks.specs.Chunks.{joined}
use Rattle.oc_chunks.specs.Pieces.{view, chunks_now}
use Rattle.oc_chunks.proofs.Gaps.{adds_nothing}
use Rattle.oc_chunks.proofs.adding.add.Goals as goal

pub returns-in-Ok-clause-ok : goal.returns-in-Ok-clause-ok
returns-in-Ok-clause-ok g c = adds_nothing g.E.Entry.order g.E.Entry.bytes g.E.Entry.MOST c.args.entry (view g.E.Entry.order c.args.pieces.now.items) (subst (λ l. has g.E.Entry.order c.args.entry (joined (flat_map chunks_now l)) ≡ true) c.deref.ensures.value c.in-Ok.ensures.there)
