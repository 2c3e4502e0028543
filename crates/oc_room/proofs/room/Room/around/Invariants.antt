use Rattle.std.proofs.Common.{◌≡◌, ◌≤◌}
use Rattle.oc_free.specs.FreeParts.{free_at}
use Rattle.oc_room.proofs.Filled.{IsFilled}
use Rattle.oc_room.proofs.room.Room.around.Given as goal

-- the things so far, and the room between them
abbrev pub invariant-loop-thing : goal.invariant-loop-thing
invariant-loop-thing l = record {
  filled : IsFilled l.unit l.room.end l.thing-items l.thing-index (free_at l.room.parts);
  end : l.room.end ≤ l.end;
  unit : l.room.unit ≡ l.unit;
  limit : l.room.limit ≡ l.limit;
}
