use Rattle.oc_marshal.proofs.Readings.{no_items, none_weaker}
use Rattle.oc_marshal.proofs.reading.items_at.Goals as goal

pub returns-clause-none : goal.returns-clause-none
returns-clause-none c =
    none_weaker c.atoms_at.result (no_items c.args.base c.args.bytes.now c.args.at c.in-Some.from c.in-Some.count c.in-Some.ensures.found) c.atoms_at.ensures.none
