use Rattle.std.proofs.Common.{◌≡◌, ◌≤◌, length, take, drop, flat_map}
use Rattle.oc_chunks.specs.Ascending.{Each}
use Rattle.oc_chunks.specs.Pieces.{chunks_now}
use Rattle.oc_chunks.specs.Settling.{IsSettled, kept_chunks}
use Rattle.oc_chunks.proofs.settling.settle.Given as goal

-- the settled pieces stand in front, and the rest is as it was
abbrev pub invariant-loop-at : goal.invariant-loop-at
invariant-loop-at g l = record {
  behind : l.kept ≤ l.at;
  long : length l.pieces.items ≡ length l.initial.pieces.items;
  rest : drop l.at l.pieces.items ≡ drop l.at l.initial.pieces.items;
  settled : Each IsSettled (take l.kept l.pieces.items);
  chunks : flat_map chunks_now (take l.kept l.pieces.items) ≡ flat_map (kept_chunks g.E.Entry.order l.keep) (take l.at l.initial.pieces.items);
}
