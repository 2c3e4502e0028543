-- Each clause is a lemma.
use Rattle.oc_model.proofs.Criteria.{criteria_total, criteria_exact}
use Rattle.oc_model.proofs.laws_queries.order_by_criteria_is_total.Goals as goal

pub returns : goal.returns
returns c = record { total = criteria_total; apart = criteria_exact }
