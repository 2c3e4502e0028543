use Rattle.oc_catalog.proofs.Drafts.{if_none, no_next}
use Rattle.oc_catalog.proofs.reading.head_of.Goals as goal

pub returns-in_err-next-clause-none : goal.returns-in_err-next-clause-none
returns-in_err-next-clause-none c = if_none c.from_residual.result (no_next c.args.bytes.now c.in_err-next.ensures.none)
