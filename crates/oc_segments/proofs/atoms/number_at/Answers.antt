use Rattle.oc_segments.proofs.atoms.number_at.Goals as goal

pub returns-in-I128-by_width-clause-none : goal.returns-in-I128-by_width-clause-none
returns-in-I128-by_width-clause-none c = rw c.in-I128-by_width.is c.by_width-signed_at-5.ensures.none
