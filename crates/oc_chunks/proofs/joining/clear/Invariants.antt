use Rattle.std.proofs.Common.{◌≡◌, length, take, drop, flat_map}
use Rattle.std.specs.List.{AllWithin}
use Rattle.oc_chunks.specs.Ascending.{Each}
use Rattle.oc_chunks.specs.Merging.{IsBare}
use Rattle.oc_chunks.specs.Pieces.{chunks_then, IsSized}
use Rattle.oc_chunks.proofs.joining.clear.Given as goal

-- the pieces so far are cleared
abbrev pub invariant-loop-at : goal.invariant-loop-at
invariant-loop-at g l = record {
  long : length l.pieces.items ≡ length l.initial.pieces.items;
  front : take l.from l.pieces.items ≡ take l.from l.initial.pieces.items;
  rest : drop l.at l.pieces.items ≡ drop l.at l.initial.pieces.items;
  bare : AllWithin IsBare l.pieces.items l.from l.at;
  sized : Each IsSized l.pieces.items;
  marked : flat_map (chunks_then g.E.Entry.order) l.pieces.items ≡ flat_map (chunks_then g.E.Entry.order) l.initial.pieces.items;
}
