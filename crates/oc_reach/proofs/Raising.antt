-- One raise, and raises one after the other.
use Rattle.std.proofs.Common.{◌≡◌, ℕ, ◌+◌, ◌<◌, ◌≤◌, inl, inr, List, [], ◌∷◌, length, cond, true, false, refl, sym, ap, ◌∙◌, subst, arith, le_trans, lt-ltb, fold, drop, get_or}
use Rattle.std.proofs.lemmas.List.{drop_more}
use Rattle.std.proofs.lemmas.Bool.{cases_lt}
use Rattle.std.specs.List.{Contains}
use Rattle.std.specs.List.Sorted.{IsPermutation}
use Rattle.std.specs.Ordering.{eq_by_cmp}
use Rattle.std.proofs.lemmas.List.Elements.{Contains-append_right, All-cons}
use Rattle.std.proofs.lemmas.List.Sorted.{Contains-permutation, All-permutation, length_permutation}
use Rattle.std.specs.FinMap.{put}
use Rattle.oc_model.specs.declared.reach.Node.{Node}
use Rattle.oc_model.specs.Lists.{IsOneOf}
use Rattle.oc_model.specs.Walks.{Walk, Table, node_cmp, budget, raised}
use Rattle.oc_model.proofs.Reaching.{budget-put, raised-keeps, same_node, self_tied}
use Rattle.oc_reach.specs.Work.{Work, IsRaised, all_budgets, arrivals}

pub in_head : {X : Type 0} (e : X) (es : List X) → Contains (e ∷ es) e
in_head e es = (0, omega arith, refl)

pub in_tail : {X : Type 0} (f e : X) (es : List X) → Contains es e → Contains (f ∷ es) e
in_tail f e es h = Contains-append_right (f ∷ []) es e h

-- ---- sums

pub sums_rise : (t u : Table) → ((x : Node) → budget t x ≤ budget u x) → (ns : List Node) → all_budgets t ns ≤ all_budgets u ns
sums_rise t u k [] = omega arith
sums_rise t u k (x ∷ ns) = let a : budget t x ≤ budget u x = k x in let b : all_budgets t ns ≤ all_budgets u ns = sums_rise t u k ns in omega arith

pub sum_rises : (t u : Table) → ((x : Node) → budget t x ≤ budget u x) → (y : Node) → budget t y < budget u y → (ns : List Node) → IsOneOf y ns → all_budgets t ns < all_budgets u ns
sum_rises t u k y lt [] i = absurd i
sum_rises t u k y lt (x ∷ ns) i =
    elim i as (λ _. all_budgets t (x ∷ ns) < all_budgets u (x ∷ ns)) [
      | inl e ↦ let a : budget t x < budget u x = subst (λ z. budget t z < budget u z) e lt in let b : all_budgets t ns ≤ all_budgets u ns = sums_rise t u k ns in omega arith
      | inr r ↦ let a : budget t x ≤ budget u x = k x in let b : all_budgets t ns < all_budgets u ns = sum_rises t u k y lt ns r in omega arith
    ]

-- ---- raises

pub raised_not : (ns : List Node) (t : Table) (work : Work) → IsRaised ns t work t work
raised_not ns t work =
    record {
      higher = λ x. omega arith;
      kept = λ e h. h;
      listed = λ x lt. absurd (omega arith);
      live = λ h. h;
      paid = omega arith;
    }

pub raised_then : (ns : List Node) (t u v : Table) (a b c : Work) → IsRaised ns t a u b → IsRaised ns u b v c → IsRaised ns t a v c
raised_then ns t u v a b c p q =
    record {
      higher = λ x. le_trans (p.higher x) (q.higher x);
      kept = λ e h. q.kept e (p.kept e h);
      listed = λ x lt. elim (cases_lt (budget u x) (budget v x)) [
        | inl rises ↦ q.listed x rises
        | inr stays ↦ let up : budget u x ≤ budget v x = q.higher x in let e : budget u x ≡ budget v x = omega arith in subst (λ n. Contains c (n, x)) e (q.kept (budget u x, x) (p.listed x (omega arith)))
      ];
      live = λ h. q.live (p.live h);
      paid = let m = p.paid in let n = q.paid in omega arith;
    }

-- a node that has a higher budget after a raise is the one that was raised
pub only_raised : (t : Table) (y : Node) (k : ℕ) (x : Node) → budget t x < budget (put node_cmp y k t) x → (x ≡ y) × (budget (put node_cmp y k t) x ≡ k)
only_raised t y k x lt =
    (elim (eq_by_cmp node_cmp x y) as (λ b. eq_by_cmp node_cmp x y ≡ b → budget (put node_cmp y k t) x ≡ cond b k (budget t x) → (x ≡ y) × (budget (put node_cmp y k t) x ≡ k)) [
      | true ↦ λ s e. (same_node x y s, e)
      | false ↦ λ s e. absurd (omega arith)
    ]) refl (budget-put y k t x)

at_raised : (t : Table) (y : Node) (k : ℕ) → budget (put node_cmp y k t) y ≡ k
at_raised t y k = budget-put y k t y ∙ ap (λ b. cond b k (budget t y)) (self_tied y)

-- the entry is put, and stands in the work
pub raised_once : (ns : List Node) (t : Table) (y : Node) (k : ℕ) (work left : Work) → budget t y < k → IsOneOf y ns → IsPermutation ((k, y) ∷ work) left → IsRaised ns t work (put node_cmp y k t) left
raised_once ns t y k work left lt i p =
    let up : (x : Node) → budget t x ≤ budget (put node_cmp y k t) x = λ x. subst (λ b. budget t x ≤ budget (cond b (put node_cmp y k t) t) x) (lt-ltb _ _ lt) (raised-keeps t (y, k) x) in
    let at : budget (put node_cmp y k t) y ≡ k = at_raised t y k in
    let rises : budget t y < budget (put node_cmp y k t) y = omega arith in
    record {
      higher = up;
      kept = λ e h. Contains-permutation _ _ e p (in_tail (k, y) e work h);
      listed = λ x l. let o = only_raised t y k x l in subst (λ (e : ℕ × Node). Contains left e) (λ j. (sym o.1 j, sym o.0 j)) (Contains-permutation _ _ (k, y) p (in_head (k, y) work));
      live = λ h. All-permutation (λ e. 1 ≤ e.0) _ _ p (All-cons (λ (e : ℕ × Node). 1 ≤ e.0) (k, y) work (omega arith) h);
      paid = let m : all_budgets t ns < all_budgets (put node_cmp y k t) ns = sum_rises t (put node_cmp y k t) up y rises ns i in let n = length_permutation _ _ p in omega arith;
    }

pub raised_put : (t : Table) (y : Node) (k : ℕ) → budget t y < k → put node_cmp y k t ≡ raised t (y, k)
raised_put t y k lt = ap (λ b. cond b (put node_cmp y k t) t) (sym (lt-ltb _ _ lt))

-- the offers that are left, after one of them
pub offers_step : (w : Walk) (h : ℕ) (ys : List Node) (i : ℕ) (d : Node) (b : ℕ) (t u : Table) → i < length ys → b ≡ w.arrive (get_or ys i d) h → u ≡ raised t (get_or ys i d, b) → fold raised u (arrivals w h (drop (i + 1) ys)) ≡ fold raised t (arrivals w h (drop i ys))
offers_step w h ys i d b t u lt e f =
    ap (λ v. fold raised v (arrivals w h (drop (i + 1) ys))) (f ∙ ap (λ b. raised t (get_or ys i d, b)) e)
    ∙ sym (ap (λ zs. fold raised t (arrivals w h zs)) (drop_more ys i d lt))
