use Rattle.oc_catalog.proofs.Drafts.{if_none}
use Rattle.oc_segments.proofs.Whole.{no_short}
use Rattle.oc_segments.proofs.reading.size_of.Goals as goal

pub returns-in_err-count-clause-none : goal.returns-in_err-count-clause-none
returns-in_err-count-clause-none c = if_none c.from_residual.result (no_short c.args.bytes.now 0 c.in_err-count.ensures.none)
