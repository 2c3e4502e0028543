-- Settings stay in range where those of a class are entered that are.
use Rattle.std.proofs.Common.{◌≡◌, ℕ, ◌≤◌, Bool, true, false, cond, Option, Some, None, unwrap_or, refl, sym, ◌∙◌, subst, arith, nat_cmp}
use Rattle.std.specs.Ordering.{eq_by_cmp}
use Rattle.std.specs.Cmp.{nat_cmp_total}
use Rattle.std.specs.FinMap.Entries.{find-put}
use Rattle.oc_model.specs.declared.reach.ClassSettings.{ClassSettings}
use Rattle.oc_model.specs.Maps.{at, with_at}
use Rattle.oc_model.specs.States.{Settings, start_settings}
use Rattle.oc_reach.specs.Graphs.{AreInRange, HasRange}

no_settings : {k : ClassSettings} → None ≡ Some k → ⊥
no_settings e = cc

same_settings : {j k : ClassSettings} → Some j ≡ Some k → j ≡ k
same_settings e = cc

pub in_range_start : AreInRange start_settings
in_range_start = record { activation = omega arith; update = omega arith; classes = λ c k e. absurd (no_settings e) }

pub in_range_set : (s t : Settings) (c : ℕ) (k : ClassSettings) → AreInRange s → HasRange k → t ≡ record s { classes = with_at s.classes c k } → AreInRange t
in_range_set s t c k all one is =
    subst AreInRange (sym is) (record {
      activation = all.activation;
      update = all.update;
      classes = λ q j e. (elim (eq_by_cmp nat_cmp q c) as (λ b. at (with_at s.classes c k) q ≡ cond b (Some k) (at s.classes q) → HasRange j) [
        | true ↦ λ f. subst HasRange (same_settings (sym f ∙ e)) one
        | false ↦ λ f. all.classes q j (sym f ∙ e)
      ]) (find-put nat_cmp nat_cmp_total q c k s.classes);
    })

pub has_range : (k : ClassSettings) → k.minimum ≤ 65535 → k.maximum ≤ 65535 → k.update ≡ None → HasRange k
has_range k a b e = record { minimum = a; maximum = b; update = subst (λ o. unwrap_or o 0 ≤ 65535) (sym e) (omega arith) }
