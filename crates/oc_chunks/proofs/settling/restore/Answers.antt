use Rattle.std.proofs.Common.{sym, subst}
use Rattle.oc_chunks.specs.Ascending.{IsAscending}
use Rattle.oc_chunks.specs.Pieces.{present, gone}
use Rattle.oc_chunks.proofs.Backs.{ascends_before}
use Rattle.oc_chunks.proofs.settling.restore.Goals as goal

pub put_back-requires-clause-ascending : goal.put_back-requires-clause-ascending
put_back-requires-clause-ascending g c = ascends_before g.E.Entry.order g.met.E.Entry.total (gone c.loop-part.part) (present c.loop-part.part) (subst (IsAscending g.E.Entry.order) (sym c.loop-part.invariant.same) c.requires.ascending)
