use Rattle.std.proofs.Common.{take}
use Rattle.oc_chunks.specs.Ascending.{IsAscending}
use Rattle.oc_chunks.proofs.opening.ascends.Given as goal

-- those so far ascend
abbrev pub invariant-loop-at : goal.invariant-loop-at
invariant-loop-at g l = IsAscending g.E.Entry.order (take l.at l.entries)
