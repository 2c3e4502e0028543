use Rattle.std.proofs.Common.{◌≡◌, length, take, flat_map}
use Rattle.oc_chunks.specs.Joining.{Joins, NoneSmall}
use Rattle.oc_chunks.specs.Pieces.{chunks_now, chunks_then, IsSound}
use Rattle.oc_chunks.proofs.joining.join_small.Given as goal

-- no two neighbours so far are small
abbrev pub invariant-loop-at : goal.invariant-loop-at
invariant-loop-at g l = record {
  sound : IsSound g.E.Entry.order l.pieces.items;
  long : length l.pieces.items ≡ length l.initial.pieces.items;
  marked : flat_map (chunks_then g.E.Entry.order) l.pieces.items ≡ flat_map (chunks_then g.E.Entry.order) l.initial.pieces.items;
  joins : Joins g.E.Entry.bytes g.E.Entry.MOST (flat_map chunks_now l.initial.pieces.items) (flat_map chunks_now l.pieces.items);
  none : NoneSmall g.E.Entry.bytes g.E.Entry.MOST (flat_map chunks_now (take l.at l.pieces.items));
}
