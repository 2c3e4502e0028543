use Rattle.std.proofs.Common.{◌≡◌, length}
use Rattle.oc_marshal.specs.Spelling.{atom_bytes}
use Rattle.oc_marshal.specs.Places.{StandInRow}
use Rattle.oc_marshal.specs.Records.{is_atom}
use Rattle.oc_marshal.proofs.reading.atoms_at.Given as goal

abbrev pub invariant-loop : goal.invariant-loop
invariant-loop l = record {
  row : StandInRow (is_atom l.base) (atom_bytes l.base) l.bytes l.at l.atoms.items l.place;
  count : length l.atoms.items ≡ l.counter;
}
