use Rattle.std.proofs.Common.{◌≡◌, drop}
use Rattle.oc_slots.specs.Planning.{end_over}
use Rattle.oc_slots.proofs.commit_plan.end_over.Given as goal

abbrev pub invariant-loop-cell : goal.invariant-loop-cell
invariant-loop-cell l = end_over l.unit l.end (drop l.cell-index l.cells) ≡ end_over l.unit l.fn.len l.cells
