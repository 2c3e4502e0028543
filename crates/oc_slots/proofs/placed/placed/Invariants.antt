use Rattle.std.proofs.Common.{◌≡◌, map, ◌++◌}
use Rattle.oc_slots.specs.Slots.{cells_of, change_of}
use Rattle.oc_slots.proofs.placed.placed.Given as goal

abbrev pub invariant-loop-change : goal.invariant-loop-change
invariant-loop-change l =
    (map change_of l.placed.items ≡ l.yielded)
    × (cells_of l.placed.items ++ l.rest ≡ l.cells)
    × (l.yielded ++ l.change-iterator.rest.items ≡ l.fn.changes.items)
