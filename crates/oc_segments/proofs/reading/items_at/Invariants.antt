use Rattle.std.proofs.Common.{◌≡◌, length}
use Rattle.oc_marshal.specs.Places.{StandInRow}
use Rattle.oc_segments.proofs.reading.items_at.Given as goal

abbrev pub invariant-loop : goal.invariant-loop
invariant-loop g l = record {
  row : StandInRow (g.E.Item.stands l.base) (g.E.Item.spell l.base) l.bytes l.at l.items.items l.place;
  count : length l.items.items ≡ l.counter;
}
