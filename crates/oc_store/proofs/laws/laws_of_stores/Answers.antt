use Rattle.std.proofs.Common.{subst, sym}
use Rattle.oc_store.specs.Stands.{Spells}
use Rattle.oc_store.proofs.OneStore.{one_spelled, one_store, same_maps}
use Rattle.oc_store.proofs.laws.laws_of_stores.Goals as goal

pub returns : goal.returns
returns c = record {
  one_spelled = λ first m n s t same a b. one_spelled first n s t (subst (λ x. Spells first x s) (same_maps m n same) a) b;
  one_store = one_store;
}
