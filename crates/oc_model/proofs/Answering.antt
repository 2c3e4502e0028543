-- The answer of a query is the list in order of what was found.
use Rattle.std.proofs.Common.{◌≡◌, ℕ, Bool, true, false, cond, ◌&&◌, List, [], ◌∷◌, filter, IsPermutation, IsSorted, refl, sym, ap, ◌∙◌, true≢false, nat_cmp, if◌then◌else◌}
use Rattle.std.specs.Ordering.{is_lt, ordering_reverse}
use Rattle.std.specs.declared.cmp.Ordering.TheVariants.{Less, Equal, Greater}
use Rattle.std.specs.Cmp.{nat_cmp_total}
use Rattle.std.specs.FinMap.{is_sorted}
use Rattle.std.specs.FinMap.Entries.{below_all}
use Rattle.oc_model.specs.declared.query.Expr.{Expr}
use Rattle.oc_model.specs.declared.query.Expr.TheVariants.{All}
use Rattle.oc_model.specs.declared.query.Criterion.{Criterion}
use Rattle.oc_model.specs.Maps.{Map, keys}
use Rattle.oc_model.specs.Lists.{placed, sorted}
use Rattle.oc_model.specs.Stores.{Store}
use Rattle.oc_model.specs.Queries.{criteria_cmp, found, answer, is_of}
use Rattle.oc_model.proofs.Elements.{both_true}
use Rattle.oc_model.proofs.Sorting.{sorted_only, sorted_in_order, sorted_permutes}
use Rattle.oc_model.proofs.Criteria.{criteria_total, criteria_exact}

pub answer_permutes : (s : Store) (c : ℕ) (e : Expr) (cs : List Criterion) → IsPermutation (found s c e) (answer s c e cs)
unfolding answer
answer_permutes s c e cs = sorted_permutes (criteria_cmp s cs) (criteria_total s cs) (criteria_exact s cs) (found s c e)

pub answer_in_order : (s : Store) (c : ℕ) (e : Expr) (cs : List Criterion) → IsSorted (criteria_cmp s cs) (answer s c e cs)
unfolding answer
answer_in_order s c e cs = sorted_in_order (criteria_cmp s cs) (criteria_total s cs) (criteria_exact s cs) (found s c e)

pub answer_only : (s : Store) (c : ℕ) (e : Expr) (cs : List Criterion) (ys : List ℕ) → IsPermutation (found s c e) ys → IsSorted (criteria_cmp s cs) ys → ys ≡ answer s c e cs
unfolding answer
answer_only s c e cs ys p o = sorted_only (criteria_cmp s cs) (criteria_total s cs) (criteria_exact s cs) (found s c e) ys p o

-- ---- without an expression and criteria

not_below : (x y : ℕ) → is_lt (nat_cmp x y) ≡ true → is_lt (nat_cmp y x) ≡ false
not_below x y h =
    (elim (nat_cmp x y) as (λ r. nat_cmp x y ≡ r → is_lt r ≡ true → is_lt (nat_cmp y x) ≡ false) [
      | Less ↦ λ e _. ap is_lt (nat_cmp_total.antisymm y x ∙ ap ordering_reverse e)
      | Equal ↦ λ _ h. absurd (true≢false (sym h))
      | Greater ↦ λ _ h. absurd (true≢false (sym h))
    ]) refl h

first_placed : {X : Type 0} (p : ℕ → Bool) (k : ℕ) (m : Map X) → below_all nat_cmp k m ≡ true → placed nat_cmp k (filter p (keys m)) ≡ k ∷ filter p (keys m)
first_placed p k [] h = refl
first_placed p k (e ∷ m) h =
    let b = both_true (is_lt (nat_cmp k e.0)) (below_all nat_cmp k m) h in
    elim (p e.0) as (λ t. placed nat_cmp k (cond t (e.0 ∷ filter p (keys m)) (filter p (keys m))) ≡ k ∷ cond t (e.0 ∷ filter p (keys m)) (filter p (keys m))) [
      | true ↦ ap (λ t. if t then e.0 ∷ placed nat_cmp k (filter p (keys m)) else k ∷ e.0 ∷ filter p (keys m)) (not_below k e.0 b.0)
      | false ↦ first_placed p k m b.1
    ]

sorted_keys : {X : Type 0} (p : ℕ → Bool) (m : Map X) → is_sorted nat_cmp m ≡ true → sorted nat_cmp (filter p (keys m)) ≡ filter p (keys m)
sorted_keys p [] h = refl
sorted_keys p (e ∷ m) h =
    let b = both_true (below_all nat_cmp e.0 m) (is_sorted nat_cmp m) h in
    elim (p e.0) as (λ t. sorted nat_cmp (cond t (e.0 ∷ filter p (keys m)) (filter p (keys m))) ≡ cond t (e.0 ∷ filter p (keys m)) (filter p (keys m))) [
      | true ↦ ap (placed nat_cmp e.0) (sorted_keys p m b.1) ∙ first_placed p e.0 m b.0
      | false ↦ sorted_keys p m b.1
    ]

and_true : (b : Bool) → (b && true) ≡ b
and_true true = refl
and_true false = refl

-- the objects of the class by number
pub answer_plain : (s : Store) (c : ℕ) → is_sorted nat_cmp s.records ≡ true → answer s c All [] ≡ filter (is_of s c) (keys s.records)
unfolding answer
answer_plain s c h =
    ap (λ (p : ℕ → Bool). sorted nat_cmp (filter p (keys s.records))) (λ i n. and_true (is_of s c n) i) ∙ sorted_keys (is_of s c) s.records h
