use Rattle.std.proofs.Common.{subst}
use Rattle.oc_chunks.specs.Adding.{Gap}
use Rattle.oc_chunks.specs.Pieces.{view}
use Rattle.oc_chunks.specs.Removing.{IsHere}
use Rattle.oc_chunks.proofs.Swapping.{puts_new, gap_absent, on_ok}
use Rattle.oc_chunks.proofs.putting.put.Goals as goal

pub put_over-requires-clause-here : goal.put_over-requires-clause-here
put_over-requires-clause-here g c = subst (λ l. IsHere (λ e. g.E.Entry.order e c.args.entry) l c.in-Ok.found.piece c.in-Ok.found.at) c.deref.ensures.value c.in-Ok.ensures.here

pub returns-in-Err-clause-ok : goal.returns-in-Err-clause-ok
returns-in-Err-clause-ok g c =
    let cmp = g.E.Entry.order in
    let ps = c.args.pieces.now.items in
    let gap = subst (λ l. Gap cmp c.args.entry l c.in-Err.gap.piece c.in-Err.gap.at) c.deref.ensures.value c.in-Err.ensures.gap in
    on_ok c.put.result (puts_new cmp g.met.E.Entry.total g.E.Entry.bytes g.E.Entry.MOST c.args.entry (view cmp ps) (view cmp c.put.new.pieces.items) (gap_absent cmp g.met.E.Entry.total c.args.entry ps c.in-Err.gap.piece c.in-Err.gap.at gap)) c.put.ensures.ok
