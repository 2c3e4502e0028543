-- The order by criteria is total, and tells numbers apart.
use Rattle.std.proofs.Common.{Bool, true, false, List, [], ◌∷◌}
use Rattle.std.specs.Ordering.{on}
use Rattle.std.specs.declared.cmp.Ordering.{Ordering}
use Rattle.std.specs.Cmp.{IsTotalOrder, nat_cmp_total}
use Rattle.std.proofs.lemmas.Cmp.{on_total, then_total, back_total}
use Rattle.std.proofs.lemmas.Map.Lookups.{CmpEqualImpliesEq, exact_unsigned}
use Rattle.oc_model.specs.declared.query.Criterion.{Criterion}
use Rattle.oc_model.specs.Stores.{Store}
use Rattle.oc_model.specs.Orders.{compare}
use Rattle.oc_model.specs.Queries.{criteria_cmp, key_at, turned}
use Rattle.oc_model.proofs.Orders.{compare_total, last_equal}

turned_total : {K : Type 0} (b : Bool) (R : K → K → Ordering) → IsTotalOrder R → IsTotalOrder (turned b R)
turned_total true R o = o
turned_total false R o = back_total o

pub criteria_total : (s : Store) (cs : List Criterion) → IsTotalOrder (criteria_cmp s cs)
criteria_total s [] = nat_cmp_total
criteria_total s (c ∷ cs) = then_total (turned_total c.ascending (on (key_at s c) compare) (on_total (key_at s c) compare_total)) (criteria_total s cs)

pub criteria_exact : (s : Store) (cs : List Criterion) → CmpEqualImpliesEq (criteria_cmp s cs)
criteria_exact s [] n m h = exact_unsigned n m h
criteria_exact s (c ∷ cs) n m h = criteria_exact s cs n m (last_equal _ _ h)
