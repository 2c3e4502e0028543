use Rattle.oc_catalog.proofs.Drafts.{no_label}
use Rattle.oc_catalog.proofs.classes.FieldDefPart.read.Goals as goal

pub returns-in_default-clause-none : goal.returns-in_default-clause-none
returns-in_default-clause-none c = no_label c.args.bytes.now c.args.at c.in_default.ensures.none
