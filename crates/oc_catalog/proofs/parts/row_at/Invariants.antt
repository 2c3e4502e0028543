use Rattle.std.proofs.Common.{◌≡◌, length}
use Rattle.oc_marshal.specs.Places.{StandInRow}
use Rattle.oc_catalog.proofs.parts.row_at.Given as goal

abbrev pub invariant-loop : goal.invariant-loop
invariant-loop g l = record {
  row : StandInRow g.P.Part.test g.P.Part.spell l.bytes l.at l.parts.items l.place;
  count : length l.parts.items ≡ l.counter;
}
