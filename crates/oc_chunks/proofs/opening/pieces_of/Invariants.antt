use Rattle.std.proofs.Common.{◌≡◌, length, map, take, drop, flat_map}
use Rattle.oc_chunks.specs.Ascending.{Each, IsAscending}
use Rattle.oc_chunks.specs.Between.{entries_in}
use Rattle.oc_chunks.specs.Opening.{chunk_read}
use Rattle.oc_chunks.specs.Pieces.{chunks_now}
use Rattle.oc_chunks.specs.Settling.{IsSettled}
use Rattle.oc_chunks.proofs.opening.pieces_of.Given as goal

-- the pieces of the chunks so far, and the rest as it was
abbrev pub invariant-loop-at : goal.invariant-loop-at
invariant-loop-at g l = record {
  long : length l.chunks.items ≡ length l.initial.chunks.items;
  rest : drop l.at l.chunks.items ≡ drop l.at l.initial.chunks.items;
  settled : Each IsSettled l.pieces.items;
  ascending : IsAscending g.E.Entry.order (entries_in l.pieces.items);
  chunks : flat_map chunks_now l.pieces.items ≡ map chunk_read (take l.at l.initial.chunks.items);
}
