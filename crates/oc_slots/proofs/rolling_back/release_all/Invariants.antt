use Rattle.std.proofs.Common.{◌≡◌, ◌≤◌, ◌+◌, ℕ, length, drop}
use Rattle.oc_free.specs.FreeParts.{free_at}
use Rattle.oc_room.specs.Rooms.{owners}
use Rattle.oc_slots.specs.Slots.{places_in}
use Rattle.oc_slots.specs.Noting.{GoFree}
use Rattle.oc_slots.proofs.rolling_back.release_all.Given as goal

abbrev pub invariant-loop-index : goal.invariant-loop-index
invariant-loop-index l = record {
  free : GoFree l.room (places_in (drop l.index l.changes.entries));
  parts : (k : ℕ) → free_at l.room.parts k + owners l.fn.room.unit (places_in (drop l.index l.changes.entries)) k ≡ free_at l.fn.room.parts k + owners l.fn.room.unit (places_in l.changes.entries) k;
  spare : l.fn.room.spare + length (places_in (drop l.index l.changes.entries)) ≤ l.room.spare + length (places_in l.changes.entries);
  unit : l.room.unit ≡ l.fn.room.unit;
  end : l.room.end ≡ l.fn.room.end;
  limit : l.room.limit ≡ l.fn.room.limit;
}
