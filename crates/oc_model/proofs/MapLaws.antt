-- A map is known by what it has at each key.
use Rattle.std.proofs.Common.{◌≡◌, ◌≢◌, ℕ, true, false, cond, T, Some, refl, sym, ap, ◌∙◌, nat_cmp, true≢false}
use Rattle.std.specs.Ordering.{eq_by_cmp, is_eq}
use Rattle.std.specs.Cmp.{nat_cmp_total, tied_itself}
use Rattle.std.proofs.lemmas.Map.Lookups.{exact_unsigned}
use Rattle.std.specs.FinMap.{find, is_sorted}
use Rattle.std.specs.FinMap.Entries.{find-put, is_sorted-put, same_entries}
use Rattle.oc_model.specs.Maps.{Map, at, with_at}
use Rattle.oc_model.proofs.Reaching.{is_equal, of_true}

-- by one equation for all keys
pub with_at_only : {X : Type 0} (es fs : Map X) (k : ℕ) (v : X) → T (is_sorted nat_cmp es) → T (is_sorted nat_cmp fs) → ((q : ℕ) → find nat_cmp q fs ≡ cond (eq_by_cmp nat_cmp q k) (Some v) (find nat_cmp q es)) → fs ≡ with_at es k v
with_at_only es fs k v a b h =
    same_entries nat_cmp nat_cmp_total exact_unsigned fs (with_at es k v) b (is_sorted-put nat_cmp nat_cmp_total k v es a) (λ q. h q ∙ sym (find-put nat_cmp nat_cmp_total q k v es))

-- by the key, and all others
pub with_at_alone : {X : Type 0} (es fs : Map X) (k : ℕ) (v : X) → is_sorted nat_cmp es ≡ true → is_sorted nat_cmp fs ≡ true → at fs k ≡ Some v → ((q : ℕ) → q ≢ k → at fs q ≡ at es q) → fs ≡ with_at es k v
with_at_alone es fs k v a b here there =
    with_at_only es fs k v (of_true _ a) (of_true _ b)
    (λ q.
    (elim (eq_by_cmp nat_cmp q k) as (λ t. eq_by_cmp nat_cmp q k ≡ t → find nat_cmp q fs ≡ cond t (Some v) (find nat_cmp q es)) [
      | true ↦ λ e. ap (λ n. find nat_cmp n fs) (exact_unsigned q k (is_equal _ e)) ∙ here
      | false ↦ λ e. there q (λ same. true≢false (sym (ap is_eq (tied_itself nat_cmp_total k)) ∙ ap (λ n. eq_by_cmp nat_cmp n k) (sym same) ∙ e))
    ]) refl)
