-- One offer more is made, and one less is left.
use Rattle.std.proofs.Common.{◌∙◌}
use Rattle.std.specs.BinaryHeap.{heap_items}
use Rattle.oc_reach.proofs.Raising.{raised_then, offers_step}
use Rattle.oc_reach.proofs.progress.hand_on.Goals as goal

pub loop-node-preserved : goal.loop-node-preserved
loop-node-preserved g c =
    let w = g.P.Spread.walk c.args.spread.now in
    let h = c.args.handed in
    let ys = c.args.nodes.now in
    let i = c.loop-node.node-index in
    record {
      table = offers_step w h ys i _ _ c.loop-node.budgets.entries c.offer.new.budgets.entries c.loop-node-test.true c.arrive-budget.ensures c.in_ok-offer.ensures.table ∙ c.loop-node.invariant.table;
      raises = raised_then w.nodes c.args.budgets.now.entries c.loop-node.budgets.entries c.offer.new.budgets.entries (heap_items c.args.work.now) (heap_items c.loop-node.work) (heap_items c.offer.new.work)
          c.loop-node.invariant.raises (c.in_ok-offer.ensures.raises w.nodes (c.requires.inside i _ c.loop-node-test.true));
    }
