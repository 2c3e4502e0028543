use Rattle.std.proofs.Common.{◌≡◌, ◌++◌, length, take, drop, flat_map}
use Rattle.oc_chunks.specs.Ascending.{Each}
use Rattle.oc_chunks.specs.Between.{entries_in}
use Rattle.oc_chunks.specs.Opening.{spare_of, written}
use Rattle.oc_chunks.specs.Pieces.{chunks_now}
use Rattle.oc_chunks.specs.Settling.{IsSettled}
use Rattle.oc_chunks.proofs.writing.set_written.Given as goal

-- the pieces so far are written, and the rest is as it was
abbrev pub invariant-loop-at : goal.invariant-loop-at
invariant-loop-at g l = record {
  long : length l.pieces.items ≡ length l.initial.pieces.items;
  rest : drop l.at l.pieces.items ≡ drop l.at l.initial.pieces.items;
  settled : Each IsSettled (take l.at l.pieces.items);
  entries : entries_in (take l.at l.pieces.items) ≡ entries_in (take l.at l.initial.pieces.items);
  chunks : flat_map chunks_now (take l.at l.pieces.items) ++ written l.spare (flat_map chunks_now (drop l.at l.initial.pieces.items)) ≡ written l.numbers (flat_map chunks_now l.initial.pieces.items);
  left : spare_of l.spare (flat_map chunks_now (drop l.at l.initial.pieces.items)) ≡ spare_of l.numbers (flat_map chunks_now l.initial.pieces.items);
}
