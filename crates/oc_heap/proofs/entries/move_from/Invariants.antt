use Rattle.std.proofs.Common.{◌≡◌, ◌+◌, ◌-◌, ◌≤◌, ◌++◌, take, drop, reverse, length, vec_len}
use Rattle.std.specs.Vec.{vec_capacity}
use Rattle.oc_heap.proofs.entries.move_from.Given as goal

-- the entries from what is left on have moved, the last one first, and the list has room for those that are still to move
abbrev pub invariant-loop-left : goal.invariant-loop-left
invariant-loop-left l =
    record {
      from : l.place ≤ l.left;
      within : l.left ≤ length l.fn.entries;
      front : l.entries ≡ take l.left l.fn.entries;
      moved : l.list.items ≡ l.fn.list.items ++ reverse (drop l.left l.fn.entries);
      room : vec_len l.list + (l.left - l.place) ≤ vec_capacity l.list;
      capacity : vec_capacity l.fn.list ≤ vec_capacity l.list;
    }
