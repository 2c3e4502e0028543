use Rattle.std.proofs.Common.{◌≡◌, ◌≤◌, ◌+◌, ◌++◌, ℕ, length, take, drop}
use Rattle.std.specs.Prelude.{Contains}
use Rattle.oc_layout.specs.declared.cells.Cell.{Cell}
use Rattle.oc_layout.specs.declared.cells.Space.{Space}
use Rattle.oc_free.specs.FreeParts.{free_at}
use Rattle.oc_room.specs.Rooms.{owners}
use Rattle.oc_slots.specs.Slots.{changes_of, spare_of, cells_of}
use Rattle.oc_slots.specs.Stores.{fresh_of}
use Rattle.oc_slots.specs.Noting.{noted, IsSession}
use Rattle.oc_slots.proofs.noting.note_all.Given as goal

abbrev pub invariant-loop-change : goal.invariant-loop-change
invariant-loop-change l = record {
  session : IsSession l.overlay l.room l.fresh (cells_of (drop l.change-index l.placed));
  space : length l.placed ≤ spare_of l.overlay + l.change-index;
  changes : (space : Space) → changes_of l.overlay space ≡ noted (take l.change-index l.placed) space (changes_of l.fn.overlay space);
  moved : (k : ℕ) → free_at l.room.parts k + owners l.fn.room.unit (fresh_of l.overlay) k + owners l.fn.room.unit (cells_of (drop l.change-index l.placed)) k
      ≡ free_at l.fn.room.parts k + owners l.fn.room.unit (fresh_of l.fn.overlay) k + owners l.fn.room.unit (cells_of l.placed) k;
  members : (c : Cell) → Contains (fresh_of l.overlay ++ cells_of (drop l.change-index l.placed)) c → Contains (fresh_of l.fn.overlay ++ cells_of l.placed) c;
  unit : l.room.unit ≡ l.fn.room.unit;
  end : l.room.end ≡ l.fn.room.end;
  limit : l.room.limit ≡ l.fn.room.limit;
}
