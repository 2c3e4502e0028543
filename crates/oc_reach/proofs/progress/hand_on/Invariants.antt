-- What is raised so far and what is left to offer make the whole.
use Rattle.std.proofs.Common.{◌≡◌, fold, drop}
use Rattle.std.specs.BinaryHeap.{heap_items}
use Rattle.oc_model.specs.Walks.{raised}
use Rattle.oc_reach.specs.Work.{IsRaised, arrivals}
use Rattle.oc_reach.proofs.progress.hand_on.Given as goal

abbrev pub invariant-loop-node : goal.invariant-loop-node
invariant-loop-node g l =
    let w = g.P.Spread.walk l.spread in
    record {
      table : fold raised l.budgets.entries (arrivals w l.handed (drop l.node-index l.nodes)) ≡ fold raised l.fn.budgets.entries (arrivals w l.handed l.nodes);
      raises : IsRaised w.nodes l.fn.budgets.entries (heap_items l.fn.work) l.budgets.entries (heap_items l.work);
    }
