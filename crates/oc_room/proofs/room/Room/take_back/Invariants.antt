use Rattle.std.proofs.Common.{◌≡◌, ◌<◌, ◌≤◌, ◌+◌, ℕ, take}
use Rattle.oc_free.specs.FreeParts.{free_at}
use Rattle.oc_room.specs.Rooms.{owners}
use Rattle.oc_room.proofs.room.Room.take_back.Given as goal

-- the cells so far are given back
abbrev pub invariant-loop-cell : goal.invariant-loop-cell
invariant-loop-cell l = record {
  below : (k : ℕ) → k < l.end → free_at l.self.parts k ≡ free_at l.fn.self.parts k + owners l.fn.self.unit (take l.cell-index l.cells) k;
  behind : (k : ℕ) → l.end ≤ k → free_at l.self.parts k ≡ 0;
  end : l.self.end ≡ l.fn.self.end;
  unit : l.self.unit ≡ l.fn.self.unit;
  limit : l.self.limit ≡ l.fn.self.limit;
  spare : l.fn.self.spare ≤ l.self.spare + l.cell-index;
}
