-- The elements that the entries of a map give, in order, and what one of them adds.
use Rattle.std.proofs.Common.{◌≡◌, ◌≢◌, ◌⊎◌, inl, inr, ◌∙◌, ap, sym, refl, subst, ℕ, ◌==◌, Bool, true, false, cond, not, List, [], ◌∷◌, map, filter, None, Some, is_some, arith, true≢false}
use Rattle.std.specs.Ordering.{is_eq, is_lt, nat_cmp}
use Rattle.std.specs.declared.cmp.Ordering.{Ordering}
use Rattle.std.specs.declared.cmp.Ordering.TheVariants.{Less, Equal, Greater}
use Rattle.std.specs.Cmp.{IsTotalOrder, nat_cmp_total, tied_itself}
use Rattle.std.specs.FinMap.Entries.{by_order, below_all, is_sorted}
use Rattle.std.proofs.lemmas.Bool.{eq-eqb, ne_eqb}
use Rattle.std.proofs.lemmas.Bool.Decides.{eqb_tells}
use Rattle.std.proofs.lemmas.Map.Lookups.{exact_unsigned}
use Rattle.oc_model.specs.Lists.{placed, sorted}
use Rattle.oc_model.specs.Maps.{Map, at, with_at}
use Rattle.oc_model.proofs.Elements.{both_true}
use Rattle.oc_model.proofs.Reaching.{is_equal}
use Rattle.oc_chunks.specs.Ascending.{Each}
use Rattle.oc_lists.specs.Changing.{without_at}
use Rattle.oc_index.proofs.Ordered.{lt_of}
use Rattle.oc_lists.proofs.Placing.{placed_swap}

-- ---- keys

pub tied : (n k : ℕ) → n ≡ k → is_eq (nat_cmp n k) ≡ true
tied n k same = ap (λ m. is_eq (nat_cmp n m)) (sym same) ∙ ap is_eq (tied_itself nat_cmp_total n)

pub untied : (n k : ℕ) → n ≢ k → is_eq (nat_cmp n k) ≡ false
untied n k apart =
    (elim (is_eq (nat_cmp n k)) as (λ b. is_eq (nat_cmp n k) ≡ b → b ≡ false) [
      | true ↦ λ e. absurd (apart (exact_unsigned n k (is_equal (nat_cmp n k) e)))
      | false ↦ λ e. refl
    ]) refl

module _ {V : Type 0} where
  -- the first entry stays, or goes
  pub kept_first : (n : ℕ) (e : ℕ × V) (m : Map V) → (e.0 == n) ≡ false → without_at n (e ∷ m) ≡ e ∷ without_at n m
  kept_first n e m off = ap (λ b. cond (not b) (e ∷ without_at n m) (without_at n m)) off

  pub gone_first : (n : ℕ) (e : ℕ × V) (m : Map V) → (e.0 == n) ≡ true → without_at n (e ∷ m) ≡ without_at n m
  gone_first n e m it = ap (λ b. cond (not b) (e ∷ without_at n m) (without_at n m)) it

  pub found_later : (n : ℕ) (e : ℕ × V) (m : Map V) → n ≢ e.0 → at (e ∷ m) n ≡ at m n
  found_later n e m apart = ap (λ b. cond b (Some e.1) (at m n)) (untied n e.0 apart)

  pub found_first : (n : ℕ) (e : ℕ × V) (m : Map V) → n ≡ e.0 → at (e ∷ m) n ≡ Some e.1
  found_first n e m same = ap (λ b. cond b (Some e.1) (at m n)) (tied n e.0 same)

  none_below : (n : ℕ) (m : Map V) → below_all nat_cmp n m ≡ true → without_at n m ≡ m
  none_below n [] below = refl
  none_below n (e ∷ m) below =
      let parts = both_true (is_lt (nat_cmp n e.0)) (below_all nat_cmp n m) below in
      kept_first n e m (ne_eqb e.0 n (λ same. absurd (omega (arith, lt_of n e.0 parts.0, same)))) ∙ ap (λ l. e ∷ l) (none_below n m parts.1)

  some_or_none : (x : V) → Some x ≢ None
  some_or_none x e = true≢false (ap is_some e)

  -- no key is this one
  pub none_there : (n : ℕ) (m : Map V) → at m n ≡ None → without_at n m ≡ m
  none_there n [] off = refl
  none_there n (e ∷ m) off = elim (eqb_tells e.0 n) [
    | inl same ↦ absurd (some_or_none e.1 (sym (found_first n e m (sym same.1)) ∙ off))
    | inr apart ↦ kept_first n e m apart.0 ∙ ap (λ l. e ∷ l) (none_there n m (sym (found_later n e m (λ same. apart.1 (sym same))) ∙ off))
  ]

  -- what is at the key doesn't matter without it
  pub without_put : (n : ℕ) (r : V) (m : Map V) → without_at n (with_at m n r) ≡ without_at n m
  without_put n r [] = gone_first n (n, r) [] (eq-eqb n n refl)
  without_put n r (e ∷ m) =
      (elim (nat_cmp n e.0) as (λ o. nat_cmp n e.0 ≡ o → without_at n (by_order o ((n, r) ∷ e ∷ m) ((e.0, r) ∷ m) (e ∷ with_at m n r)) ≡ without_at n (e ∷ m)) [
        | Less ↦ λ _. gone_first n (n, r) (e ∷ m) (eq-eqb n n refl)
        | Equal ↦ λ h. let same : (e.0 == n) ≡ true = eq-eqb e.0 n (sym (exact_unsigned n e.0 h)) in gone_first n (e.0, r) m same ∙ sym (gone_first n e m same)
        | Greater ↦ λ _. ap (λ l. cond (not (e.0 == n)) (e ∷ l) l) (without_put n r m)
      ]) refl

-- ---- the elements in order

module _ {V X : Type 0} (R : X → X → Ordering) (o : IsTotalOrder R) (passes : ℕ × V → Bool) (item : ℕ × V → X) where
  abbrev pub items : Map V → List X
  items m = map item (filter passes m)

  abbrev pub in_order : Map V → List X
  in_order m = sorted R (items m)

  pub each_item : (P : X → Type 0) (n : ℕ) → ((e : ℕ × V) → e.0 ≢ n → P (item e)) → (m : Map V) → Each P (items (without_at n m))
  each_item P n of [] = tt
  each_item P n of (e ∷ m) = elim (eqb_tells e.0 n) [
    | inl same ↦ subst (λ l. Each P (items l)) (sym (gone_first n e m same.0)) (each_item P n of m)
    | inr apart ↦ subst (λ l. Each P (items l)) (sym (kept_first n e m apart.0)) (of_test (passes e) apart.1 (each_item P n of m))
  ]
    where
      of_test : (b : Bool) → e.0 ≢ n → Each P (items (without_at n m)) → Each P (map item (cond b (e ∷ filter passes (without_at n m)) (filter passes (without_at n m))))
      of_test true apart rest = (of e apart, rest)
      of_test false apart rest = rest

  one_first : (e : ℕ × V) (m : Map V) → passes e ≡ true → in_order (e ∷ m) ≡ placed R (item e) (in_order m)
  one_first e m it = ap (λ b. sorted R (map item (cond b (e ∷ filter passes m) (filter passes m)))) it

  none_first : (e : ℕ × V) (m : Map V) → passes e ≡ false → items (e ∷ m) ≡ items m
  none_first e m off = ap (λ b. map item (cond b (e ∷ filter passes m) (filter passes m))) off

  first_gone : (n : ℕ) (q : V) (m : Map V) → below_all nat_cmp n m ≡ true → without_at n ((n, q) ∷ m) ≡ m
  first_gone n q m below = gone_first n (n, q) m (eq-eqb n n refl) ∙ none_below n m below

  -- the first entry is the one
  it_is : (n : ℕ) (q : V) (e : ℕ × V) (m : Map V) → e.0 ≡ n → at (e ∷ m) n ≡ Some q → ◌≡◌ {A = ℕ × V} (n, q) e
  it_is n q e m same found = let value : e.1 ≡ q = some_same e.1 q (sym (found_first n e m (sym same)) ∙ found) in λ i. (sym same i, sym value i)
    where
      some_same : (a b : V) → Some a ≡ Some b → a ≡ b
      some_same a b h = cc

  module _ (apart : (d e : ℕ × V) → d.0 ≢ e.0 → ¬ (R (item d) (item e) ≡ Equal)) (n : ℕ) (q : V) (it : passes (n, q) ≡ true) where
    -- an entry that passes adds its element
    pub one_more : (m : Map V) → is_sorted nat_cmp m ≡ true → at m n ≡ Some q → in_order m ≡ placed R (item (n, q)) (in_order (without_at n m))
    one_more [] up found = absurd (some_or_none q (sym found))
    one_more (e ∷ m) up found = by_key (eqb_tells e.0 n) (one_more m (both_true (below_all nat_cmp e.0 m) (is_sorted nat_cmp m) up).1)
      where
        below : below_all nat_cmp e.0 m ≡ true
        below = (both_true (below_all nat_cmp e.0 m) (is_sorted nat_cmp m) up).0

        of_test : (b : Bool) → in_order m ≡ placed R (item (n, q)) (in_order (without_at n m)) → e.0 ≢ n
            → sorted R (map item (cond b (e ∷ filter passes m) (filter passes m))) ≡ placed R (item (n, q)) (sorted R (map item (cond b (e ∷ filter passes (without_at n m)) (filter passes (without_at n m)))))
        of_test true rest other = ap (placed R (item e)) rest ∙ placed_swap R o (item e) (item (n, q)) (in_order (without_at n m)) (apart e (n, q) other)
        of_test false rest other = rest

        by_key : (((e.0 == n) ≡ true) × (e.0 ≡ n)) ⊎ (((e.0 == n) ≡ false) × (e.0 ≢ n)) → (at m n ≡ Some q → in_order m ≡ placed R (item (n, q)) (in_order (without_at n m))) → in_order (e ∷ m) ≡ placed R (item (n, q)) (in_order (without_at n (e ∷ m)))
        by_key (inl same) rest =
            subst (λ d. in_order (d ∷ m) ≡ placed R (item (n, q)) (in_order (without_at n (d ∷ m)))) (it_is n q e m same.1 found)
            (one_first (n, q) m it ∙ ap (λ l. placed R (item (n, q)) (in_order l)) (sym (first_gone n q m (subst (λ k. below_all nat_cmp k m ≡ true) same.1 below))))
        by_key (inr other) rest =
            of_test (passes e) (rest (sym (found_later n e m (λ same. other.1 (sym same))) ∙ found)) other.1
            ∙ ap (λ l. placed R (item (n, q)) (in_order l)) (sym (kept_first n e m other.0))

  -- an entry that doesn't pass adds nothing
  pub none_more : (n : ℕ) (q : V) (m : Map V) → passes (n, q) ≡ false → is_sorted nat_cmp m ≡ true → at m n ≡ Some q → items m ≡ items (without_at n m)
  none_more n q [] off up found = refl
  none_more n q (e ∷ m) off up found = by_key (eqb_tells e.0 n) (none_more n q m off (both_true (below_all nat_cmp e.0 m) (is_sorted nat_cmp m) up).1)
    where
      below : below_all nat_cmp e.0 m ≡ true
      below = (both_true (below_all nat_cmp e.0 m) (is_sorted nat_cmp m) up).0

      of_test : (b : Bool) → items m ≡ items (without_at n m) → map item (cond b (e ∷ filter passes m) (filter passes m)) ≡ map item (cond b (e ∷ filter passes (without_at n m)) (filter passes (without_at n m)))
      of_test true rest = ap (λ l. item e ∷ l) rest
      of_test false rest = rest

      by_key : (((e.0 == n) ≡ true) × (e.0 ≡ n)) ⊎ (((e.0 == n) ≡ false) × (e.0 ≢ n)) → (at m n ≡ Some q → items m ≡ items (without_at n m)) → items (e ∷ m) ≡ items (without_at n (e ∷ m))
      by_key (inl same) rest =
          subst (λ d. items (d ∷ m) ≡ items (without_at n (d ∷ m))) (it_is n q e m same.1 found)
          (none_first (n, q) m off ∙ ap items (sym (first_gone n q m (subst (λ k. below_all nat_cmp k m ≡ true) same.1 below))))
      by_key (inr other) rest =
          of_test (passes e) (rest (sym (found_later n e m (λ same. other.1 (sym same))) ∙ found))
          ∙ ap items (sym (kept_first n e m other.0))
