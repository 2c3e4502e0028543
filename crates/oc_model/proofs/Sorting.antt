-- A list in order that has the same elements is the sorted list.
use Rattle.std.proofs.Common.{◌≡◌, ℕ, zero, suc, ◌+◌, true, false, cond, List, [], ◌∷◌, get_or, sum_by, IsPermutation, IsSorted, refl, sym, ap, ◌∙◌, subst, arith, true≢false, add-one}
use Rattle.std.specs.Ordering.{eq_by_cmp, is_eq, is_lt, ordering_reverse}
use Rattle.std.specs.declared.cmp.Ordering.{Ordering}
use Rattle.std.specs.declared.cmp.Ordering.TheVariants.{Less, Equal, Greater}
use Rattle.std.specs.Cmp.{IsTotalOrder, tied_itself}
use Rattle.std.proofs.lemmas.Map.Lookups.{CmpEqualImpliesEq}
use Rattle.std.proofs.lemmas.List.Sums.{sum_by-cons}
use Rattle.std.proofs.lemmas.List.Sorted.{sum_by-IsPermutation, IsPermutation-refl, IsPermutation-cons, IsPermutation-middle, IsPermutation-trans}
use Rattle.oc_model.specs.Lists.{placed, sorted}

not_less : (o : Ordering) → Less ≡ o → o ≡ Equal → ⊥
not_less o e f = cc

module _ {X : Type 0} (R : X → X → Ordering) (o : IsTotalOrder R) (exact : CmpEqualImpliesEq R) where
  -- no element is less than x; and the list ascends
  Above : X → List X → Type 0
  Above x [] = Unit {0}
  Above x (y ∷ ys) = (is_lt (R y x) ≡ false) × Above x ys

  Asc : List X → Type 0
  unfolding Above
  Asc [] = Unit {0}
  Asc (x ∷ xs) = Above x xs × Asc xs

  one_if : X → X → ℕ
  one_if q y = cond (eq_by_cmp R q y) 1 0

  times : X → List X → ℕ
  times q [] = 0
  times q (y ∷ ys) = one_if q y + times q ys

  times_is : (q : X) (xs : List X) → times q xs ≡ sum_by (one_if q) xs
  unfolding times
  times_is q [] = refl
  times_is q (x ∷ xs) = ap (λ n. one_if q x + n) (times_is q xs) ∙ sym (sum_by-cons (one_if q) x xs)

  self : (x : X) → one_if x x ≡ 1
  unfolding one_if
  self x = ap (λ r. cond (is_eq r) 1 0) (tied_itself o x)

  none_below : (x y : X) → R x y ≡ Less → one_if x y ≡ 0
  unfolding one_if
  none_below x y e = ap (λ r. cond (is_eq r) 1 0) e

  -- x is less than y, and z is not
  stays_below : (x y z : X) → R x y ≡ Less → is_lt (R z y) ≡ false → R x z ≡ Less
  stays_below x y z lt h =
      (elim (R z y) as (λ r. R z y ≡ r → is_lt r ≡ false → R x z ≡ Less) [
        | Less ↦ λ _ h. absurd (true≢false h)
        | Equal ↦ λ e _. o.antisymm x z ∙ ap ordering_reverse (o.congr z y x e) ∙ sym (o.antisymm x y) ∙ lt
        | Greater ↦ λ e _. o.trans x y z lt (o.antisymm y z ∙ ap ordering_reverse e)
      ]) refl h

  none : (x y : X) (ys : List X) → R x y ≡ Less → Above y ys → times x ys ≡ 0
  unfolding times Above
  none x y [] lt a = refl
  none x y (z ∷ ys) lt a =
      let p : one_if x z ≡ 0 = none_below x z (stays_below x y z lt a.0) in
      let q : times x ys ≡ 0 = none x y ys lt a.1 in
      omega arith

  impossible : (x y : X) (xs ys : List X) → R x y ≡ Less → Above y ys → times x (x ∷ xs) ≡ times x (y ∷ ys) → ⊥
  unfolding times
  impossible x y xs ys lt a e =
      let p : one_if x x ≡ 1 = self x in
      let q : one_if x y ≡ 0 = none_below x y lt in
      let r : times x ys ≡ 0 = none x y ys lt a in
      absurd (omega arith)

  only : (xs ys : List X) → Asc xs → Asc ys → ((q : X) → times q xs ≡ times q ys) → xs ≡ ys
  unfolding Asc times
  only [] [] a b h = refl
  only [] (y ∷ ys) a b h = let p : one_if y y ≡ 1 = self y in let q : 0 ≡ one_if y y + times y ys = h y in absurd (omega arith)
  only (x ∷ xs) [] a b h = let p : one_if x x ≡ 1 = self x in let q : one_if x x + times x xs ≡ 0 = h x in absurd (omega arith)
  only (x ∷ xs) (y ∷ ys) a b h =
      (elim (R x y) as (λ r. R x y ≡ r → x ∷ xs ≡ y ∷ ys) [
        | Less ↦ λ e. absurd (impossible x y xs ys e b.0 (h x))
        | Greater ↦ λ e. absurd (impossible y x ys xs (o.antisymm y x ∙ ap ordering_reverse e) a.0 (sym (h y)))
        | Equal ↦ λ e. let same : x ≡ y = exact x y e in
            let tails : (q : X) → times q xs ≡ times q ys = λ q. (let p : one_if q x + times q xs ≡ one_if q y + times q ys = h q in let s : one_if q x ≡ one_if q y = ap (one_if q) same in omega arith) in
            let t : xs ≡ ys = only xs ys a.1 b.1 tails in
            λ i. same i ∷ t i
      ]) refl

  -- ---- what `sorted` gives

  times-placed : (q x : X) (ys : List X) → times q (placed R x ys) ≡ one_if q x + times q ys
  unfolding times
  times-placed q x [] = refl
  times-placed q x (y ∷ ys) =
      elim (is_lt (R y x)) as (λ b. times q (cond b (y ∷ placed R x ys) (x ∷ y ∷ ys)) ≡ one_if q x + (one_if q y + times q ys)) [
        | true ↦ let h : times q (placed R x ys) ≡ one_if q x + times q ys = times-placed q x ys in omega arith
        | false ↦ refl
      ]

  times-sorted : (q : X) (xs : List X) → times q (sorted R xs) ≡ times q xs
  unfolding times
  times-sorted q [] = refl
  times-sorted q (x ∷ xs) = times-placed q x (sorted R xs) ∙ ap (λ n. one_if q x + n) (times-sorted q xs)

  -- z is less than x where it is less than y, which isn't above x
  above_through : (x y z : X) → is_lt (R x y) ≡ true → is_lt (R z y) ≡ false → is_lt (R z x) ≡ false
  above_through x y z p h =
      (elim (R x y) as (λ r. R x y ≡ r → is_lt r ≡ true → is_lt (R z x) ≡ false) [
        | Less ↦ λ e _. ap is_lt (o.antisymm z x ∙ ap ordering_reverse (stays_below x y z e h))
        | Equal ↦ λ _ p. absurd (true≢false (sym p))
        | Greater ↦ λ _ p. absurd (true≢false (sym p))
      ]) refl p

  -- neither z is less than y nor y than x
  not_less_through : (x y z : X) → is_lt (R y x) ≡ false → is_lt (R z y) ≡ false → is_lt (R z x) ≡ false
  not_less_through x y z p q =
      (elim (R z x) as (λ r. R z x ≡ r → is_lt r ≡ false) [
        | Less ↦ λ e. absurd (true≢false (sym (ap is_lt (stays_below z x y e p)) ∙ q))
        | Equal ↦ λ _. refl
        | Greater ↦ λ _. refl
      ]) refl

  above_lower : (x y : X) (ys : List X) → is_lt (R y x) ≡ false → Above y ys → Above x ys
  unfolding Above
  above_lower x y [] p a = tt
  above_lower x y (z ∷ ys) p a = (not_less_through x y z p a.0, above_lower x y ys p a.1)

  not_back : (x y : X) → is_lt (R y x) ≡ true → is_lt (R x y) ≡ false
  not_back x y p =
      (elim (R y x) as (λ r. R y x ≡ r → is_lt r ≡ true → is_lt (R x y) ≡ false) [
        | Less ↦ λ e _. ap is_lt (o.antisymm x y ∙ ap ordering_reverse e)
        | Equal ↦ λ _ p. absurd (true≢false (sym p))
        | Greater ↦ λ _ p. absurd (true≢false (sym p))
      ]) refl p

  above-placed : (z x : X) (ys : List X) → is_lt (R x z) ≡ false → Above z ys → Above z (placed R x ys)
  unfolding Above
  above-placed z x [] p a = (p, tt)
  above-placed z x (y ∷ ys) p a =
      elim (is_lt (R y x)) as (λ b. Above z (cond b (y ∷ placed R x ys) (x ∷ y ∷ ys))) [ true ↦ (a.0, above-placed z x ys p a.1) | false ↦ (p, a) ]

  asc-placed : (x : X) (ys : List X) → Asc ys → Asc (placed R x ys)
  unfolding Asc Above
  asc-placed x [] a = (tt, tt)
  asc-placed x (y ∷ ys) a =
      (elim (is_lt (R y x)) as (λ b. is_lt (R y x) ≡ b → Asc (cond b (y ∷ placed R x ys) (x ∷ y ∷ ys))) [
        | true ↦ λ e. (above-placed y x ys (not_back x y e) a.0, asc-placed x ys a.1)
        | false ↦ λ e. ((e, above_lower x y ys e a.0), a)
      ]) refl

  asc-sorted : (xs : List X) → Asc (sorted R xs)
  unfolding Asc
  asc-sorted [] = tt
  asc-sorted (x ∷ xs) = asc-placed x (sorted R xs) (asc-sorted xs)

  -- ---- from std's word, by index

  sorted_tail : (x : X) (xs : List X) → IsSorted R (x ∷ xs) → IsSorted R xs
  sorted_tail x xs h k d _ lt =
      subst (λ n. is_lt (R (get_or xs n d) (get_or xs k d)) ≡ false) (sym (add-one k))
      (subst (λ n. is_lt (R (get_or (x ∷ xs) n d) (get_or xs k d)) ≡ false) (add-one (suc k)) (h (suc k) d (omega arith) (omega arith)))

  above_of_sorted : (x : X) (xs : List X) → IsSorted R (x ∷ xs) → Above x xs
  unfolding Above
  above_of_sorted x [] h = tt
  above_of_sorted x (y ∷ ys) h =
      let first : is_lt (R y x) ≡ false = h 0 x (omega arith) (omega arith) in
      (first, above_lower x y ys first (above_of_sorted y ys (sorted_tail x (y ∷ ys) h)))

  asc_of_sorted : (xs : List X) → IsSorted R xs → Asc xs
  unfolding Asc
  asc_of_sorted [] h = tt
  asc_of_sorted (x ∷ xs) h = (above_of_sorted x xs h, asc_of_sorted xs (sorted_tail x xs h))

  -- what a sort by a total order leaves
  pub sorted_only : (xs ys : List X) → IsPermutation xs ys → IsSorted R ys → ys ≡ sorted R xs
  sorted_only xs ys p s =
      only ys (sorted R xs) (asc_of_sorted ys s) (asc-sorted xs)
      (λ q. times_is q ys ∙ sum_by-IsPermutation (one_if q) xs ys p ∙ sym (times_is q xs) ∙ sym (times-sorted q xs))

  -- ---- the sorted list is one in order of the same elements

  sorted_of_asc : (xs : List X) → Asc xs → IsSorted R xs
  unfolding Asc Above
  sorted_of_asc [] a k d _ lt = absurd (omega arith)
  sorted_of_asc (x ∷ []) a k d _ lt = absurd (omega arith)
  sorted_of_asc (x ∷ y ∷ ys) a zero d _ lt = a.0.0
  sorted_of_asc (x ∷ y ∷ ys) a (suc k) d _ lt =
      subst (λ n. is_lt (R (get_or (x ∷ y ∷ ys) n d) (get_or (y ∷ ys) k d)) ≡ false) (sym (add-one (suc k)))
      (subst (λ n. is_lt (R (get_or (y ∷ ys) n d) (get_or (y ∷ ys) k d)) ≡ false) (add-one k) (sorted_of_asc (y ∷ ys) a.1 k d (omega arith) (omega arith)))

  pub sorted_in_order : (xs : List X) → IsSorted R (sorted R xs)
  sorted_in_order xs = sorted_of_asc (sorted R xs) (asc-sorted xs)

  placed_permutes : (x : X) (ys : List X) → IsPermutation (x ∷ ys) (placed R x ys)
  placed_permutes x [] = IsPermutation-refl (x ∷ [])
  placed_permutes x (y ∷ ys) =
      elim (is_lt (R y x)) as (λ b. IsPermutation (x ∷ y ∷ ys) (cond b (y ∷ placed R x ys) (x ∷ y ∷ ys))) [
        | true ↦ IsPermutation-trans (x ∷ y ∷ ys) (y ∷ x ∷ ys) (y ∷ placed R x ys) (IsPermutation-middle (x ∷ []) y ys)
            (IsPermutation-cons y (x ∷ ys) (placed R x ys) (placed_permutes x ys))
        | false ↦ IsPermutation-refl (x ∷ y ∷ ys)
      ]

  pub sorted_permutes : (xs : List X) → IsPermutation xs (sorted R xs)
  sorted_permutes [] = IsPermutation-refl []
  sorted_permutes (x ∷ xs) =
      IsPermutation-trans (x ∷ xs) (x ∷ sorted R xs) (placed R x (sorted R xs)) (IsPermutation-cons x xs (sorted R xs) (sorted_permutes xs)) (placed_permutes x (sorted R xs))
