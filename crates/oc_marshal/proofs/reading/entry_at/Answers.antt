use Rattle.oc_marshal.proofs.Readings.{no_entry}
use Rattle.oc_marshal.proofs.reading.entry_at.Goals as goal

pub returns-in_default-clause-none : goal.returns-in_default-clause-none
returns-in_default-clause-none c = no_entry c.args.bytes.now c.args.at c.in_default.ensures.none
