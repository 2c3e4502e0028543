use Rattle.std.proofs.Common.{rules, arith}
use Rattle.oc_marshal.specs.Spelling.{entry_bytes}
use Rattle.oc_marshal.specs.Places.{NothingAt}
use Rattle.oc_marshal.specs.Records.{is_entry}
use Rattle.oc_marshal.proofs.Parts.{no_row}
use Rattle.oc_marshal.proofs.Readings.{entry_told}
use Rattle.oc_marshal.proofs.reading.entries_at.Goals as goal

pub returns-in_default-clause-none : goal.returns-in_default-clause-none
returns-in_default-clause-none c =
    let none : NothingAt is_entry entry_bytes c.args.bytes.now c.loop.place = search rules in
    no_row is_entry entry_bytes c.args.bytes.now c.args.at c.loop.place c.args.count c.loop.entries.items
    (entry_told c.record_bytes_tell.ensures.records) c.loop.invariant.row (omega (arith, c.loop.invariant.count, c.loop-test.true)) none
