-- The entry is put in its place, and stands in the work.
use Rattle.std.proofs.Common.{◌<◌, ◌∙◌, sym, subst, arith}
use Rattle.std.specs.BinaryHeap.{heap_items}
use Rattle.oc_model.specs.Walks.{budget}
use Rattle.oc_reach.specs.Work.{IsRaised}
use Rattle.oc_reach.proofs.Tables.{entered}
use Rattle.oc_reach.proofs.Raising.{raised_once, raised_put}
use Rattle.oc_reach.proofs.progress.offer.Goals as goal

pub returns-in_ok-push-clause-table : goal.returns-in_ok-push-clause-table
returns-in_ok-push-clause-table c =
    let t = c.args.budgets.now.entries in
    let lt : budget t c.args.node < c.args.budget = omega arith in
    entered t _ _ c.args.node c.args.budget c.of-key.ensures c.in_ok-insert.ensures.entries ∙ raised_put t c.args.node c.args.budget lt

pub returns-in_ok-push-clause-raises : goal.returns-in_ok-push-clause-raises
returns-in_ok-push-clause-raises c = λ ns i.
    let t = c.args.budgets.now.entries in
    let lt : budget t c.args.node < c.args.budget = omega arith in
    let put_is = entered t _ _ c.args.node c.args.budget c.of-key.ensures c.in_ok-insert.ensures.entries in
    let p = c.in_ok-push.ensures.permutation in
    subst (λ u. IsRaised ns t (heap_items c.args.work.now) u (heap_items c.push.new.self)) (sym put_is)
    (raised_once ns t c.args.node c.args.budget (heap_items c.args.work.now) (heap_items c.push.new.self) lt i (rw c.of-key.ensures at p))
