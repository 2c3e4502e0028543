-- Maps by nodes as tables.
use Rattle.std.proofs.Common.{◌≡◌, ℕ, ◌⊎◌, inl, inr, Bool, true, false, true≢false, List, [], ◌∷◌, Option, Some, None, is_some, option_map, cond, refl, sym, ap, ◌∙◌, subst, IsTrue}
use Rattle.std.specs.List.{All}
use Rattle.std.specs.Ordering.{eq_by_cmp}
use Rattle.std.specs.FinMap.Entries.{find-put}
use Rattle.std.specs.Ordering.{match_ordering, nat_cmp}
use Rattle.std.specs.BTreeMap.{is_at, insert_entry}
use Rattle.std.specs.Map.{lookup}
use Rattle.std.specs.FinMap.{find, put}
use Rattle.std.specs.FinMap.Entries.{by_order}
use Rattle.std.specs.declared.cmp.Ordering.{Ordering}
use Rattle.std.specs.declared.cmp.Ordering.TheVariants.{Less, Equal, Greater}
use Rattle.oc_model.specs.declared.reach.Node.{Node}
use Rattle.oc_model.specs.Lists.{IsOneOf}
use Rattle.oc_model.specs.Walks.{Walk, node_cmp}
use Rattle.oc_model.proofs.Reaching.{nodes_total, same_node, self_tied}
use Rattle.oc_reach.specs.Work.{answers_of, IsAsked}

lookup_is : {K X : Type 0} (R : K → K → Ordering) (x : K) (t : List (K × X)) → lookup (is_at (R x)) t ≡ find R x t
lookup_is R x [] = refl
lookup_is R x (e ∷ t) = ap (cond (is_at (R x) e.0) (Some e.1)) (lookup_is R x t)

pub node_found : {X : Type 0} (x : Node) (t : List (Node × X)) → lookup (is_at (node_cmp x)) t ≡ find node_cmp x t
node_found x t = lookup_is node_cmp x t

pub class_found : {X : Type 0} (c : ℕ) (t : List (ℕ × X)) → lookup (is_at (nat_cmp c)) t ≡ find nat_cmp c t
class_found c t = lookup_is nat_cmp c t

by_match : {X : Type 0} (o : Ordering) (a b c d : X) → c ≡ d → match_ordering o a b c ≡ by_order o a b d
by_match Less a b c d e = refl
by_match Equal a b c d e = refl
by_match Greater a b c d e = e

pub insert_is : {K X : Type 0} (R : K → K → Ordering) (t : List (K × X)) (x : K) (k : X) → insert_entry R t x k ≡ put R x k t
insert_is R [] x k = refl
insert_is R (e ∷ t) x k = by_match (R x e.0) ((x, k) ∷ e ∷ t) ((e.0, k) ∷ t) (e ∷ insert_entry R t x k) (e ∷ put R x k t) (ap (λ u. e ∷ u) (insert_is R t x k))

pub entered : {X : Type 0} (t u : List (Node × X)) (x y : Node) (k : X) → x ≡ y → u ≡ insert_entry node_cmp t x k → u ≡ put node_cmp y k t
entered t u x y k e f = f ∙ insert_is node_cmp t x k ∙ ap (λ z. put node_cmp z k t) e

-- what the answers have, with one more
pub answers_put : {V : Type 0} (items : V → List Node) (t : List (Node × V)) (x : Node) (v : V) (q : Node) → answers_of items (put node_cmp x v t) q ≡ cond (eq_by_cmp node_cmp q x) (Some (items v)) (answers_of items t q)
answers_put items t x v q =
    ap (option_map items) (find-put node_cmp nodes_total q x v t)
    ∙ elim (eq_by_cmp node_cmp q x) as (λ b. option_map items (cond b (Some v) (find node_cmp q t)) ≡ cond b (Some (items v)) (answers_of items t q)) [ true ↦ refl | false ↦ refl ]

pub asked_before : {V : Type 0} (items : V → List Node) (t : List (Node × V)) (w : Walk) (told : Bool) (x : Node) → is_some (answers_of items t x) ≡ true → IsAsked w told x (answers_of items t) (answers_of items t)
asked_before items t w told x h =
    record {
      keeps = λ q ys e. e;
      there = (elim (answers_of items t x) as (λ o. is_some o ≡ true → (ys : List Node) × (o ≡ Some ys)) [ None ↦ λ h. absurd (true≢false (sym h)) | Some ys ↦ λ _. (ys, refl) ]) h;
      only = λ q ys e. inl e;
    }

pub none_of : {X : Type 0} (o : Option X) → is_some o ≡ false → o ≡ None
none_of None h = refl
none_of (Some x) h = absurd (true≢false h)

pub asked_now : {V : Type 0} (items : V → List Node) (t : List (Node × V)) (w : Walk) (told : Bool) (x : Node) (v : V) → is_some (answers_of items t x) ≡ false → (IsTrue told → items v ≡ w.next x) → All (λ y. IsOneOf y w.nodes) (items v) → IsAsked w told x (answers_of items t) (answers_of items (put node_cmp x v t))
asked_now items t w told x v none right within =
    record {
      keeps = λ q ys e. (elim (eq_by_cmp node_cmp q x) as (λ b. eq_by_cmp node_cmp q x ≡ b → answers_of items (put node_cmp x v t) q ≡ cond b (Some (items v)) (answers_of items t q) → answers_of items (put node_cmp x v t) q ≡ Some ys) [
        | true ↦ λ s p. absurd (no_some (sym (none_of _ none) ∙ ap (answers_of items t) (sym (same_node q x s)) ∙ e))
        | false ↦ λ s p. p ∙ e
      ]) refl (answers_put items t x v q);
      there = (items v, answers_put items t x v x ∙ ap (λ b. cond b (Some (items v)) (answers_of items t x)) (self_tied x));
      only = λ q ys e. (elim (eq_by_cmp node_cmp q x) as (λ b. eq_by_cmp node_cmp q x ≡ b → answers_of items (put node_cmp x v t) q ≡ cond b (Some (items v)) (answers_of items t q) → (answers_of items t q ≡ Some ys) ⊎ ((q ≡ x) × (IsTrue told → ys ≡ w.next x) × All (λ y. IsOneOf y w.nodes) ys)) [
        | true ↦ λ s p. let same : items v ≡ ys = some_same (sym p ∙ e) in inr (same_node q x s, (λ h. sym same ∙ right h), subst (All (λ y. IsOneOf y w.nodes)) same within)
        | false ↦ λ s p. inl (sym p ∙ e)
      ]) refl (answers_put items t x v q);
    }
  where
    no_some : {ys : List Node} → None ≡ Some ys → ⊥
    no_some e = cc

    some_same : {xs ys : List Node} → Some xs ≡ Some ys → xs ≡ ys
    some_same e = cc

pub known_is : {V : Type 0} (items : V → List Node) (x : Node) (t : List (Node × V)) → is_some (lookup (is_at (node_cmp x)) t) ≡ is_some (answers_of items t x)
known_is items x t = ap is_some (node_found x t) ∙ elim (find node_cmp x t) as (λ o. is_some o ≡ is_some (option_map items o)) [ None ↦ refl | Some v ↦ refl ]
