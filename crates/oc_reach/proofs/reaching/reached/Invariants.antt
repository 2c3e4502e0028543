-- The walk is under way, and what was asked for is answered. Each entry of the work is paid for by a higher budget.
use Rattle.std.proofs.Common.{◌+◌, ◌-◌, ◌*◌, List, length, Vec, Global}
use Rattle.std.specs.BinaryHeap.{heap_items}
use Rattle.oc_model.specs.declared.reach.Node.{Node}
use Rattle.oc_reach.specs.Work.{answers_of, IsUnderWay, AreAnswered, all_budgets}
use Rattle.oc_reach.proofs.reaching.reached.Given as goal

abbrev pub invariant-loop-budget : goal.invariant-loop-budget
invariant-loop-budget g l =
    record {
      under_way : IsUnderWay (g.P.Spread.walk l.fn.spread) g.P.Spread.tells l.fn.root l.depth (answers_of (λ (v : Vec Node Global). v.items) l.progress.answers.entries) l.progress.budgets.entries (heap_items l.progress.work);
      asked : (asked : List Node) × g.P.Spread.Goes l.fn.spread l.spread asked × AreAnswered (answers_of (λ (v : Vec Node Global). v.items) l.progress.answers.entries) asked;
    }

abbrev pub decreases-loop-budget : goal.decreases-loop-budget
decreases-loop-budget g l =
    (65535 * length (g.P.Spread.walk l.fn.spread).nodes - all_budgets l.progress.budgets.entries (g.P.Spread.walk l.fn.spread).nodes) + length (heap_items l.progress.work)
