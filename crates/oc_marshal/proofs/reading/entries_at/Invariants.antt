use Rattle.std.proofs.Common.{◌≡◌, length}
use Rattle.oc_marshal.specs.Spelling.{entry_bytes}
use Rattle.oc_marshal.specs.Places.{StandInRow}
use Rattle.oc_marshal.specs.Records.{is_entry}
use Rattle.oc_marshal.proofs.reading.entries_at.Given as goal

abbrev pub invariant-loop : goal.invariant-loop
invariant-loop l = record {
  row : StandInRow is_entry entry_bytes l.bytes l.at l.entries.items l.place;
  count : length l.entries.items ≡ l.counter;
}
