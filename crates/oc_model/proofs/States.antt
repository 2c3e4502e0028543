-- A run begins in a state that keeps the rules.
use Rattle.std.proofs.Common.{◌≡◌, Some, None, refl, sym, arith, true≢false}
use Rattle.oc_model.specs.Stores.{Store}
use Rattle.oc_model.specs.StoreRules.{KeepsStore}
use Rattle.oc_model.specs.States.{start}
use Rattle.oc_model.specs.StateRules.{IsState}

none_some : {X : Type 0} (x : X) → None ≡ Some x → ⊥
none_some x e = cc

pub start_is : (s : Store) → KeepsStore s → IsState (start s)
start_is s k =
    record {
      committed = k;
      session = k;
      ascend = refl;
      handles = λ h e. absurd (true≢false (sym e));
      live = λ h o e. absurd (none_some o e);
      numbers = λ g h o p n e. absurd (none_some o e);
      names = λ name h i. absurd i;
      settings = record { activation = omega arith; update = omega arith; ascend = refl; classes = λ c k e. absurd (none_some k e) };
      classes = λ n a b. refl;
      next = omega arith;
    }
