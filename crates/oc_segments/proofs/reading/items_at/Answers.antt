use Rattle.std.proofs.Common.{rules, arith}
use Rattle.oc_marshal.specs.Places.{NothingAt}
use Rattle.oc_marshal.proofs.Parts.{no_row}
use Rattle.oc_segments.proofs.reading.items_at.Goals as goal

pub returns-in_default-clause-none : goal.returns-in_default-clause-none
returns-in_default-clause-none g c =
    let b = c.args.base in
    let none : NothingAt (g.E.Item.stands b) (g.E.Item.spell b) c.args.bytes.now c.loop.place = search rules in
    no_row (g.E.Item.stands b) (g.E.Item.spell b) c.args.bytes.now c.args.at c.loop.place c.args.count c.loop.items.items
    (g.met.E.Item.told b) c.loop.invariant.row (omega (arith, c.loop.invariant.count, c.loop-test.true)) none
