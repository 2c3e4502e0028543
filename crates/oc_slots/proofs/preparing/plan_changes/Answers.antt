use Rattle.oc_slots.proofs.PlacedSlots.{all_cells}
use Rattle.oc_slots.proofs.preparing.plan_changes.Goals as goal

pub returns-clause-cells : goal.returns-clause-cells
returns-clause-cells c = all_cells c.args.cells.now c.args.changes.items c.in_ok-placed.placed.items c.in_ok-placed.ensures.changes c.in_ok-placed.ensures.cells c.requires.lengths
