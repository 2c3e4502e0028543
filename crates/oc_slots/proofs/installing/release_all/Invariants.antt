use Rattle.std.proofs.Common.{◌≡◌, ◌≤◌, ◌+◌, ℕ, length, drop}
use Rattle.oc_free.specs.FreeParts.{free_at}
use Rattle.oc_room.specs.Rooms.{owners}
use Rattle.oc_slots.specs.Noting.{GoFree}
use Rattle.oc_slots.proofs.installing.release_all.Given as goal

abbrev pub invariant-loop-cell : goal.invariant-loop-cell
invariant-loop-cell l = record {
  free : GoFree l.room (drop l.cell-index l.cells);
  parts : (k : ℕ) → free_at l.room.parts k + owners l.fn.room.unit (drop l.cell-index l.cells) k ≡ free_at l.fn.room.parts k + owners l.fn.room.unit l.cells k;
  spare : l.fn.room.spare + length (drop l.cell-index l.cells) ≤ l.room.spare + length l.cells;
  unit : l.room.unit ≡ l.fn.room.unit;
  end : l.room.end ≡ l.fn.room.end;
  limit : l.room.limit ≡ l.fn.room.limit;
}
