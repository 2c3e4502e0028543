use Rattle.std.proofs.Common.{◌≡◌, ◌≤◌, ◌+◌, ℕ, min, take, drop, length, map}
use Rattle.std.specs.List.{All}
use Rattle.oc_free.specs.FreeParts.{free_at}
use Rattle.oc_room.specs.Rooms.{owners, open_at, unplaced, placed, lacking, IsRoom, LiesApart, AreInOrder}
use Rattle.oc_room.proofs.room.Room.place.Given as goal

-- the lengths so far are placed
abbrev pub invariant-loop-len : goal.invariant-loop-len
invariant-loop-len l = record {
  placed : placed l.fn.self.unit (unplaced l.fn.self) (take l.len-index l.lengths) ≡ record { cells = l.cells.items; parts = l.self.parts; end = l.self.end };
  rest : lacking l.fn.self.unit l.fn.self.limit (unplaced l.fn.self) l.lengths ≡ lacking l.fn.self.unit l.fn.self.limit (record { cells = l.cells.items; parts = l.self.parts; end = l.self.end }) (drop l.len-index l.lengths);
  opened : (k : ℕ) → open_at l.fn.self k ≡ open_at l.self k + owners l.fn.self.unit l.cells.items k;
  unit : l.self.unit ≡ l.fn.self.unit;
  limit : l.self.limit ≡ l.fn.self.limit;
  end : l.fn.self.end ≤ l.self.end;
  within : l.self.end ≤ l.fn.self.limit;
  behind : (k : ℕ) → l.fn.self.end ≤ k → free_at l.self.parts k ≡ 0;
  some : All (λ cell. 1 ≤ cell.len) l.cells.items;
  lens : map (λ cell. cell.len) l.cells.items ≡ take l.len-index l.lengths;
  lies : All (LiesApart l.fn.self.unit l.fn.self.end) l.cells.items;
  order : AreInOrder l.fn.self.unit l.fn.self.end l.cells.items l.self.end;
  counted : length l.cells.items ≡ l.len-index;
  room : l.others + min (length l.lengths) l.fn.self.limit ≤ l.self.spare;
  is_room : IsRoom l.self;
  capacity : length l.lengths ≤ l.cells.cap;
}
