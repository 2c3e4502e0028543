-- The order of the criteria is total and tells numbers apart.
use Rattle.oc_model.specs.Queries.{criteria_cmp}
use Rattle.oc_model.proofs.Sorting.{sorted_only}
use Rattle.oc_model.proofs.Criteria.{criteria_total, criteria_exact}
use Rattle.oc_model.proofs.laws_queries.sort_is_sorted.Goals as goal

pub returns : goal.returns
returns c s cs xs ys p o = sorted_only (criteria_cmp s cs) (criteria_total s cs) (criteria_exact s cs) xs ys p o
