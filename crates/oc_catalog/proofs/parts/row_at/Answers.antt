use Rattle.std.proofs.Common.{rules, arith}
use Rattle.oc_marshal.specs.Places.{NothingAt}
use Rattle.oc_marshal.proofs.Parts.{no_row}
use Rattle.oc_catalog.proofs.parts.row_at.Goals as goal

pub returns-in_default-clause-none : goal.returns-in_default-clause-none
returns-in_default-clause-none g c =
    let none : NothingAt g.P.Part.test g.P.Part.spell c.args.bytes.now c.loop.place = search rules in
    no_row g.P.Part.test g.P.Part.spell c.args.bytes.now c.args.at c.loop.place c.args.count c.loop.parts.items
    g.met.P.Part.told c.loop.invariant.row (omega (arith, c.loop.invariant.count, c.loop-test.true)) none
