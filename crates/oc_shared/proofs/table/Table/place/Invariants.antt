use Rattle.std.proofs.Common.{◌≡◌, ◌+◌, ◌≤◌, length}
use Rattle.oc_shared.specs.Tables.{IsAscending, count_before}
use Rattle.oc_shared.proofs.table.Table.place.Given as goal

abbrev pub invariant-loop-parts : goal.invariant-loop-parts
invariant-loop-parts g l =
    record {
      counted : l.place + count_before l.key l.at ≡ count_before l.key l.self + length l.at;
      within : length l.at ≤ l.place;
      ascending : IsAscending l.at;
    }

abbrev pub decreases-loop-parts : goal.decreases-loop-parts
decreases-loop-parts g l = length l.at
