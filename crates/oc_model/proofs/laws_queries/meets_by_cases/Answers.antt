-- Each case is a lemma.
use Rattle.oc_model.proofs.Meeting.{meets_all, meets_not, meets_and, meets_or, meets_test, meets_null, meets_is, meets_inside}
use Rattle.oc_model.proofs.laws_queries.meets_by_cases.Goals as goal

pub returns : goal.returns
returns c = record { all = meets_all; not = meets_not; and = meets_and; or = meets_or; test = meets_test; null = meets_null; is = meets_is; inside = meets_inside }
