-- What `best` computes is what the paths say.
use Rattle.std.proofs.Common.{◌≡◌, ◌↔◌, ℕ, zero, suc, ◌+◌, ◌*◌, ◌<◌, ◌≤◌, Bool, true, false, cond, List, [], ◌∷◌, flat_map, fold, length, Some, None, unwrap_or, T, nat_lt, nat_le, ◌⊎◌, inl, inr, refl, sym, ap, ◌∙◌, subst, arith, nat_cmp, ltb-true, ltb-false, leb-true, leb-false, true≢false, le_trans}
use Rattle.std.specs.Ordering.{eq_by_cmp, is_eq}
use Rattle.std.specs.declared.cmp.Ordering.{Ordering}
use Rattle.std.specs.declared.cmp.Ordering.TheVariants.{Less, Equal, Greater}
use Rattle.std.specs.Cmp.{IsTotalOrder, nat_cmp_total, tied_itself}
use Rattle.std.proofs.lemmas.Cmp.{on_total, then_total}
use Rattle.std.proofs.lemmas.Map.Lookups.{CmpEqualImpliesEq, exact_pairs, exact_unsigned}
use Rattle.std.specs.FinMap.{find, put, is_sorted}
use Rattle.std.specs.FinMap.Entries.{find-put, is_sorted-put, by_order, same_entries}
use Rattle.oc_model.specs.declared.reach.Node.{Node}
use Rattle.oc_model.specs.declared.reach.Node.TheVariants as node
use Rattle.oc_model.specs.Lists.{IsOneOf}
use Rattle.oc_model.specs.Walks.{Walk, IsLawful, Arrives, begins, goes_on, Reached, Table, IsBest, node_cmp, node_kind, node_id, budget, handed, raised, is_settled, round, settle, best}
use Rattle.oc_model.proofs.Elements.{from_flat_map, to_flat_map, to_map, from_map, all_pass, some_fails}

-- ---- the order of nodes

pub nodes_total : IsTotalOrder node_cmp
nodes_total = then_total (on_total node_kind nat_cmp_total) (on_total node_id nat_cmp_total)

node_back : ℕ × ℕ → Node
node_back p = cond (nat_lt p.0 1) (node.Live p.1) (node.Number p.1)

back-node : (x : Node) → node_back (node_kind x, node_id x) ≡ x
unfolding node_back
back-node (node.Live h) = refl
back-node (node.Number n) = refl

pub exact_nodes : CmpEqualImpliesEq node_cmp
exact_nodes x y h =
    sym (back-node x) ∙ ap node_back (exact_pairs nat_cmp nat_cmp exact_unsigned exact_unsigned (node_kind x, node_id x) (node_kind y, node_id y) h) ∙ back-node y

pub is_equal : (o : Ordering) → is_eq o ≡ true → o ≡ Equal
is_equal Less h = cc
is_equal Equal h = refl
is_equal Greater h = cc

pub same_node : (x y : Node) → eq_by_cmp node_cmp x y ≡ true → x ≡ y
same_node x y h = exact_nodes x y (is_equal _ h)

-- ---- tables

pub entry_of_put : (k : Node) (v : ℕ) (t : Table) (p : Node × ℕ) → IsOneOf p (put node_cmp k v t) → (p ≡ (k, v)) ⊎ IsOneOf p t
entry_of_put k v [] p h = elim h [ inl e ↦ inl e | inr n ↦ absurd n ]
entry_of_put k v (e ∷ t) p h =
    (elim (node_cmp k e.0) as (λ o. node_cmp k e.0 ≡ o → IsOneOf p (by_order o ((k, v) ∷ e ∷ t) ((e.0, v) ∷ t) (e ∷ put node_cmp k v t)) → (p ≡ (k, v)) ⊎ IsOneOf p (e ∷ t)) [
      | Less ↦ λ _ h. h
      | Equal ↦ λ c h. elim h [ inl q ↦ inl (q ∙ ap (λ n. (n, v)) (sym (exact_nodes k e.0 c))) | inr q ↦ inr (inr q) ]
      | Greater ↦ λ _ h. elim h [ inl q ↦ inr (inl q) | inr q ↦ elim (entry_of_put k v t p q) [ inl a ↦ inl a | inr b ↦ inr (inr b) ] ]
    ]) refl h

not_none : (k : ℕ) → None ≡ Some k → ⊥
not_none k e = cc

pub found_entry : (x : Node) (k : ℕ) (t : Table) → find node_cmp x t ≡ Some k → IsOneOf (x, k) t
found_entry x k [] h = absurd (not_none k h)
found_entry x k (e ∷ t) h =
    (elim (eq_by_cmp node_cmp x e.0) as (λ b. eq_by_cmp node_cmp x e.0 ≡ b → cond b (Some e.1) (find node_cmp x t) ≡ Some k → IsOneOf (x, k) (e ∷ t)) [
      | true ↦ λ c h. inl (let a : e.1 ≡ k = cc in λ i. (same_node x e.0 c i, sym a i))
      | false ↦ λ c h. inr (found_entry x k t h)
    ]) refl h

-- what is found under a node, as a budget
pub budget-put : (k : Node) (v : ℕ) (t : Table) (q : Node) → budget (put node_cmp k v t) q ≡ cond (eq_by_cmp node_cmp q k) v (budget t q)
budget-put k v t q =
    ap (λ o. unwrap_or o 0) (find-put node_cmp nodes_total q k v t)
    ∙ elim (eq_by_cmp node_cmp q k) as (λ b. unwrap_or (cond b (Some v) (find node_cmp q t)) 0 ≡ cond b v (budget t q)) [ true ↦ refl | false ↦ refl ]

-- a raise lowers no budget
pub raised-keeps : (t : Table) (e : Node × ℕ) (q : Node) → budget t q ≤ budget (raised t e) q
raised-keeps t e q =
    (elim (nat_lt (budget t e.0) e.1) as (λ b. nat_lt (budget t e.0) e.1 ≡ b → budget t q ≤ budget (cond b (put node_cmp e.0 e.1 t) t) q) [
      | true ↦ λ c. subst (λ n. budget t q ≤ n) (sym (budget-put e.0 e.1 t q))
          ((elim (eq_by_cmp node_cmp q e.0) as (λ b. eq_by_cmp node_cmp q e.0 ≡ b → budget t q ≤ cond b e.1 (budget t q)) [
            | true ↦ λ s. let lt : budget t e.0 < e.1 = ltb-true _ _ c in subst (λ n. budget t n ≤ e.1) (sym (same_node q e.0 s)) (omega arith)
            | false ↦ λ s. omega arith
          ]) refl)
      | false ↦ λ c. omega arith
    ]) refl

pub self_tied : (x : Node) → eq_by_cmp node_cmp x x ≡ true
self_tied x = ap is_eq (tied_itself nodes_total x)

-- a raise raises its own node
pub raised-at : (t : Table) (e : Node × ℕ) → e.1 ≤ budget (raised t e) e.0
raised-at t e =
    (elim (nat_lt (budget t e.0) e.1) as (λ b. nat_lt (budget t e.0) e.1 ≡ b → e.1 ≤ budget (cond b (put node_cmp e.0 e.1 t) t) e.0) [
      | true ↦ λ c. subst (λ n. e.1 ≤ n) (sym (budget-put e.0 e.1 t e.0 ∙ ap (λ b. cond b e.1 (budget t e.0)) (self_tied e.0))) (omega arith)
      | false ↦ λ c. ltb-false _ _ c
    ]) refl

pub rounds-keep : (es : Table) (t : Table) (q : Node) → budget t q ≤ budget (fold raised t es) q
rounds-keep [] t q = omega arith
rounds-keep (e ∷ es) t q = let a : budget t q ≤ budget (raised t e) q = raised-keeps t e q in let b : budget (raised t e) q ≤ budget (fold raised (raised t e) es) q = rounds-keep es (raised t e) q in omega arith

pub rounds-at : (es : Table) (t : Table) (e : Node × ℕ) → IsOneOf e es → e.1 ≤ budget (fold raised t es) e.0
rounds-at [] t e h = absurd h
rounds-at (f ∷ es) t e h =
    elim h as (λ _. e.1 ≤ budget (fold raised (raised t f) es) e.0) [
      | inl q ↦ let a : e.1 ≤ budget (raised t e) e.0 = raised-at t e in let b : budget (raised t e) e.0 ≤ budget (fold raised (raised t e) es) e.0 = rounds-keep es (raised t e) e.0 in subst (λ f. e.1 ≤ budget (fold raised (raised t f) es) e.0) q (le_trans a b)
      | inr r ↦ rounds-at es (raised t f) e r
    ]

-- a budget that isn't 0 is found
pub known_budget : (t : Table) (x : Node) → 1 ≤ budget t x → find node_cmp x t ≡ Some (budget t x)
known_budget t x h =
    (elim (find node_cmp x t) as (λ o. 1 ≤ unwrap_or o 0 → o ≡ Some (unwrap_or o 0)) [ None ↦ λ h. absurd (omega arith) | Some k ↦ λ h. refl ]) h

-- ---- each entry arrives

module _ (w : Walk) (root : Node) (depth : ℕ) where
  pub Sound : Table → Type 0
  Sound t = (x : Node) (k : ℕ) → IsOneOf (x, k) t → (1 ≤ k) × Arrives w root depth x k

  Offered : Table → Type 0
  Offered es = (x : Node) (k : ℕ) → IsOneOf (x, k) es → Arrives w root depth x k

  pub sound_raised : (t : Table) (e : Node × ℕ) → Sound t → Arrives w root depth e.0 e.1 → Sound (raised t e)
  unfolding Sound
  sound_raised t e s a x k h =
      (elim (nat_lt (budget t e.0) e.1) as (λ b. nat_lt (budget t e.0) e.1 ≡ b → IsOneOf (x, k) (cond b (put node_cmp e.0 e.1 t) t) → (1 ≤ k) × Arrives w root depth x k) [
        | true ↦ λ c h. let lt : budget t e.0 < e.1 = ltb-true _ _ c in
            elim (entry_of_put e.0 e.1 t (x, k) h) [
              | inl q ↦ subst (λ (p : Node × ℕ). (1 ≤ p.1) × Arrives w root depth p.0 p.1) (sym q) ((omega arith, a))
              | inr i ↦ s x k i
            ]
        | false ↦ λ c h. s x k h
      ]) refl h

  sound_rounds : (es t : Table) → Sound t → Offered es → Sound (fold raised t es)
  unfolding Offered
  sound_rounds [] t s o = s
  sound_rounds (e ∷ es) t s o = sound_rounds es (raised t e) (sound_raised t e s (o e.0 e.1 (inl refl))) (λ x k i. o x k (inr i))

  offered_handed : (t : Table) → Sound t → Offered (flat_map (handed w) t)
  unfolding Sound Offered
  offered_handed t s y k h =
      let r = from_flat_map (handed w) (y, k) t h in
      let f : Node → Node × ℕ = λ z. (z, w.arrive z (w.hand r.0.0 r.0.1)) in
      let q = from_map f (y, k) (w.next r.0.0) r.2 in
      let a = s r.0.0 r.0.1 r.1 in
      goes_on a.1 a.0 (subst (λ z. IsOneOf z (w.next r.0.0)) (sym (ap (λ (p : Node × ℕ). p.0) q.2)) q.1)
      (ap (λ (p : Node × ℕ). p.1) q.2 ∙ ap (λ z. w.arrive z (w.hand r.0.0 r.0.1)) (sym (ap (λ (p : Node × ℕ). p.0) q.2)))

  sound_round : (t : Table) → Sound t → Sound (round w t)
  sound_round t s = sound_rounds (flat_map (handed w) t) t s (offered_handed t s)

  sound_settle : (n : ℕ) (b : Bool) (t : Table) → Sound t → Sound (settle n b w t)
  sound_settle zero true t s = s
  sound_settle zero false t s = s
  sound_settle (suc n) true t s = s
  sound_settle (suc n) false t s = sound_settle n (is_settled w (round w t)) (round w t) (sound_round t s)

  pub first : Table
  first = raised [] (root, w.arrive root depth)

  pub sound_first : Sound first
  unfolding first Sound
  sound_first = sound_raised [] (root, w.arrive root depth) (λ x k h. absurd h) (begins refl refl)

  -- ---- nothing arrives with more

  module _ (l : IsLawful w) (small : depth ≤ 65535) where
    pub arrives_small : (x : Node) (k : ℕ) → Arrives w root depth x k → k ≤ 65535
    arrives_small x k (begins p q) = subst (λ n. n ≤ 65535) (sym q) (l.arrive_small root depth small)
    arrives_small y k (goes_on {x = x} {j = j} a one i q) =
        subst (λ n. n ≤ 65535) (sym q) (l.arrive_small y (w.hand x j) (l.hand_small x j one (arrives_small x j a)))

    pub budget_small : (t : Table) → Sound t → (x : Node) → budget t x ≤ 65535
    unfolding Sound
    budget_small t s x =
        (elim (find node_cmp x t) as (λ o. find node_cmp x t ≡ o → unwrap_or o 0 ≤ 65535) [
          | None ↦ λ _. omega arith
          | Some k ↦ λ e. arrives_small x k (s x k (found_entry x k t e)).1
        ]) refl

    pub closed : (t : Table) → is_settled w t ≡ true → (x y : Node) (k : ℕ) → IsOneOf (x, k) t → IsOneOf y (w.next x) → w.arrive y (w.hand x k) ≤ budget t y
    closed t h x y k i j =
        leb-true _ _ (all_pass (λ (e : Node × ℕ). nat_le e.1 (budget t e.0)) (y, w.arrive y (w.hand x k)) (flat_map (handed w) t) h
        (to_flat_map (handed w) (y, w.arrive y (w.hand x k)) (x, k) t i (to_map (λ z. (z, w.arrive z (w.hand x k))) y (w.next x) j)))

    pub greatest : (t : Table) → Sound t → is_settled w t ≡ true → w.arrive root depth ≤ budget t root → (x : Node) (k : ℕ) → Arrives w root depth x k → k ≤ budget t x
    greatest t s h r x k (begins p q) = subst (λ n. n ≤ budget t x) (sym q) (subst (λ z. w.arrive root depth ≤ budget t z) (sym p) r)
    greatest t s h r y k (goes_on {x = x} {j = j} a one i q) =
        let below : j ≤ budget t x = greatest t s h r x j a in
        let here : 1 ≤ budget t x = omega arith in
        let found = known_budget t x here in
        let up : w.hand x j ≤ w.hand x (budget t x) = l.hand_rises x j (budget t x) one below (budget_small t s x) in
        let top : w.hand x (budget t x) ≤ 65535 = l.hand_small x (budget t x) here (budget_small t s x) in
        let on : w.arrive y (w.hand x j) ≤ w.arrive y (w.hand x (budget t x)) = l.arrive_rises y (w.hand x j) (w.hand x (budget t x)) up top in
        subst (λ n. n ≤ budget t y) (sym q) (le_trans on (closed t h x y (budget t x) (found_entry x (budget t x) t found) i))

    -- ---- the rounds come to an end

    pub total : Table → List Node → ℕ
    total t [] = 0
    total t (x ∷ xs) = budget t x + total t xs

    pub total_small : (t : Table) → Sound t → (xs : List Node) → total t xs ≤ 65535 * length xs
    unfolding total
    total_small t s [] = omega arith
    total_small t s (x ∷ xs) = let a : budget t x ≤ 65535 = budget_small t s x in let b : total t xs ≤ 65535 * length xs = total_small t s xs in omega arith

    pub total_keeps : (t u : Table) → ((x : Node) → budget t x ≤ budget u x) → (xs : List Node) → total t xs ≤ total u xs
    unfolding total
    total_keeps t u k [] = omega arith
    total_keeps t u k (x ∷ xs) = let a : budget t x ≤ budget u x = k x in let b : total t xs ≤ total u xs = total_keeps t u k xs in omega arith

    pub total_rises : (t u : Table) → ((x : Node) → budget t x ≤ budget u x) → (y : Node) → budget t y < budget u y → (xs : List Node) → IsOneOf y xs → total t xs < total u xs
    unfolding total
    total_rises t u k y lt [] i = absurd i
    total_rises t u k y lt (x ∷ xs) i =
        elim i as (λ _. total t (x ∷ xs) < total u (x ∷ xs)) [
          | inl e ↦ let a : budget t x < budget u x = subst (λ z. budget t z < budget u z) e lt in let b : total t xs ≤ total u xs = total_keeps t u k xs in omega arith
          | inr r ↦ let a : budget t x ≤ budget u x = k x in let b : total t xs < total u xs = total_rises t u k y lt xs r in omega arith
        ]

    round_rises : (t : Table) → is_settled w t ≡ false → total t w.nodes < total (round w t) w.nodes
    round_rises t h =
        let r = some_fails (λ (e : Node × ℕ). nat_le e.1 (budget t e.0)) (flat_map (handed w) t) h in
        let low : budget t r.0.0 < r.0.1 = leb-false _ _ r.2 in
        let up : r.0.1 ≤ budget (round w t) r.0.0 = rounds-at (flat_map (handed w) t) t r.0 r.1 in
        let rises : budget t r.0.0 < budget (round w t) r.0.0 = omega arith in
        total_rises t (round w t) (λ x. rounds-keep (flat_map (handed w) t) t x) r.0.0 rises w.nodes (offered_node t r.0 r.1)
      where
        offered_node : (t : Table) (e : Node × ℕ) → IsOneOf e (flat_map (handed w) t) → IsOneOf e.0 w.nodes
        offered_node t e i =
            let r = from_flat_map (handed w) e t i in
            let f : Node → Node × ℕ = λ z. (z, w.arrive z (w.hand r.0.0 r.0.1)) in
            let q = from_map f e (w.next r.0.0) r.2 in
            l.inside r.0.0 e.0 (subst (λ z. IsOneOf z (w.next r.0.0)) (sym (ap (λ (p : Node × ℕ). p.0) q.2)) q.1)

    -- with enough rounds left, nothing more is offered in the end
    settles : (n : ℕ) (b : Bool) (t : Table) → Sound t → is_settled w t ≡ b → 65535 * length w.nodes < total t w.nodes + n → is_settled w (settle n b w t) ≡ true
    settles zero true t s e m = e
    settles zero false t s e m = let a : total t w.nodes ≤ 65535 * length w.nodes = total_small t s w.nodes in absurd (omega arith)
    settles (suc n) true t s e m = e
    settles (suc n) false t s e m = let a : total t w.nodes < total (round w t) w.nodes = round_rises t e in settles n (is_settled w (round w t)) (round w t) (sound_round t s) refl (omega arith)

    settle-keeps : (n : ℕ) (b : Bool) (t : Table) (q : Node) → budget t q ≤ budget (settle n b w t) q
    settle-keeps zero true t q = omega arith
    settle-keeps zero false t q = omega arith
    settle-keeps (suc n) true t q = omega arith
    settle-keeps (suc n) false t q = le_trans (rounds-keep (flat_map (handed w) t) t q) (settle-keeps n (is_settled w (round w t)) (round w t) q)

  -- ---- the order

  pub sorted_rounds : (es t : Table) → T (is_sorted node_cmp t) → T (is_sorted node_cmp (fold raised t es))
  sorted_rounds [] t h = h
  sorted_rounds (e ∷ es) t h = sorted_rounds es (raised t e)
      (elim (nat_lt (budget t e.0) e.1) as (λ b. T (is_sorted node_cmp (cond b (put node_cmp e.0 e.1 t) t))) [ true ↦ is_sorted-put node_cmp nodes_total e.0 e.1 t h | false ↦ h ])

  sorted_settle : (n : ℕ) (b : Bool) (t : Table) → T (is_sorted node_cmp t) → T (is_sorted node_cmp (settle n b w t))
  sorted_settle zero true t h = h
  sorted_settle zero false t h = h
  sorted_settle (suc n) true t h = h
  sorted_settle (suc n) false t h = sorted_settle n (is_settled w (round w t)) (round w t) (sorted_rounds (flat_map (handed w) t) t h)

true_of : (b : Bool) → T b → b ≡ true
true_of true h = refl
true_of false h = absurd h

pub best_is : (w : Walk) (root : Node) (depth : ℕ) → IsLawful w → IsOneOf root w.nodes → depth ≤ 65535 → IsBest w root depth (best w root depth)
unfolding best first Sound
best_is w root depth l inside small =
    let t = first w root depth in
    let n = 65536 * (length w.nodes + 1) in
    let b = is_settled w t in
    let s = sound_settle w root depth n b t (sound_first w root depth) in
    let h = settles w root depth l small n b t (sound_first w root depth) refl (omega arith) in
    let r = le_trans (raised-at [] (root, w.arrive root depth)) (settle-keeps w root depth l small n b t root) in
    record {
      order = true_of _ (sorted_settle w root depth n b t (sorted_rounds w root depth ((root, w.arrive root depth) ∷ []) [] tt));
      arrives = λ x k e. s x k (found_entry x k _ e);
      greatest = λ x k a one.
          let below : k ≤ budget (settle n b w t) x = greatest w root depth l small _ s h r x k a in
          (budget (settle n b w t) x, known_budget _ x (le_trans one below), below);
    }

-- ---- one table

some_same : (j k : ℕ) → Some j ≡ Some k → j ≡ k
some_same j k e = cc

found_more : {w : Walk} {root : Node} {depth : ℕ} {t u : Table} → IsBest w root depth t → IsBest w root depth u → (x : Node) (k : ℕ) → find node_cmp x t ≡ Some k → find node_cmp x u ≡ Some k
found_more {t = t} {u = u} a b x k e =
    let i = a.arrives x k e in
    let g = b.greatest x k i.1 i.0 in
    let h = b.arrives x g.0 g.1 in
    let f = a.greatest x g.0 h.1 h.0 in
    let same : f.0 ≡ k = some_same f.0 k (sym f.1 ∙ e) in
    let back : g.0 ≤ f.0 = f.2 in
    let up : k ≤ g.0 = g.2 in
    let j : g.0 ≡ k = omega arith in
    g.1 ∙ ap (λ n. Some n) j

pub found_alike : {w : Walk} {root : Node} {depth : ℕ} {t u : Table} → IsBest w root depth t → IsBest w root depth u → (x : Node) → find node_cmp x t ≡ find node_cmp x u
found_alike {t = t} {u = u} a b x =
    (elim (find node_cmp x t) as (λ o. find node_cmp x t ≡ o → o ≡ find node_cmp x u) [
      | Some k ↦ λ e. sym (found_more a b x k e)
      | None ↦ λ e. (elim (find node_cmp x u) as (λ o. find node_cmp x u ≡ o → None ≡ o) [
        | None ↦ λ _. refl
        | Some k ↦ λ f. sym e ∙ found_more b a x k f
      ]) refl
    ]) refl

pub of_true : (b : Bool) → b ≡ true → T b
of_true true h = tt
of_true false h = absurd (true≢false (sym h))

-- there is one such table
pub best_only : {w : Walk} {root : Node} {depth : ℕ} {t u : Table} → IsBest w root depth t → IsBest w root depth u → t ≡ u
best_only {t = t} {u = u} a b = same_entries node_cmp nodes_total exact_nodes t u (of_true _ a.order) (of_true _ b.order) (found_alike a b)

-- ---- the reached nodes

pub best_has : {w : Walk} {root : Node} {depth : ℕ} {t : Table} → IsBest w root depth t → (x : Node) → Reached w root depth x ↔ ((k : ℕ) × (find node_cmp x t ≡ Some k))
best_has b x = (λ r. (let g = b.greatest x r.0 r.2 r.1 in (g.0, g.1)), λ f. (let a = b.arrives x f.0 f.1 in (f.0, a.0, a.1)))
