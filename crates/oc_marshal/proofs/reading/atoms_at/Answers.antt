use Rattle.std.proofs.Common.{rules, arith}
use Rattle.oc_marshal.specs.Spelling.{atom_bytes}
use Rattle.oc_marshal.specs.Places.{NothingAt}
use Rattle.oc_marshal.specs.Records.{is_atom}
use Rattle.oc_marshal.proofs.Parts.{no_row}
use Rattle.oc_marshal.proofs.Readings.{atom_told}
use Rattle.oc_marshal.proofs.reading.atoms_at.Goals as goal

pub returns-in_default-clause-none : goal.returns-in_default-clause-none
returns-in_default-clause-none c =
    let base = c.args.base in
    let none : NothingAt (is_atom base) (atom_bytes base) c.args.bytes.now c.loop.place = search rules in
    no_row (is_atom base) (atom_bytes base) c.args.bytes.now c.args.at c.loop.place c.args.count c.loop.atoms.items
    (atom_told c.record_bytes_tell.ensures.values base) c.loop.invariant.row (omega (arith, c.loop.invariant.count, c.loop-test.true)) none
