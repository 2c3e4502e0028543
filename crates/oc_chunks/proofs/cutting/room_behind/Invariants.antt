use Rattle.std.proofs.Common.{◌≡◌, ◌+◌, sum_by, take}
use Rattle.oc_chunks.proofs.cutting.room_behind.Given as goal

-- what is left and the bytes so far are the room
abbrev pub invariant-loop-entry : goal.invariant-loop-entry
invariant-loop-entry g l = sum_by g.E.Entry.bytes (take l.entry-index l.entries) + l.left ≡ l.room
