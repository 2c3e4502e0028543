-- The best fit, and what is left when its front is taken.
use Rattle.std.proofs.Common.{◌≡◌, ℕ, zero, suc, ◌+◌, ◌-◌, ◌<◌, ◌≤◌, Bool, true, false, cond, eqb, leb, List, [], ◌∷◌, length, Option, Some, None, sym, ap, subst, inl, inr, refl, arith}
use Rattle.std.specs.List.{insert, remove, filter}
use Rattle.std.proofs.lemmas.Bool.{cases_order}
use Rattle.std.proofs.lemmas.Bool.Decides.{nat_tests}
use Rattle.oc_model.specs.Space.{Part, is_better, better, best, best_fit, without}
use Rattle.oc_free.specs.Orders.{no_part, part_at, is_part, AreOrdered, IsFirstFit}
use Rattle.oc_free.proofs.Edits.{found}
use Rattle.oc_free.proofs.Ordered.{same_part, is_same, in_sizes, in_addresses}

-- This part is among those that hold the need, and none of them is better; or none holds it.
abbrev pub IsBest : List Part → ℕ → Option Part → Type 0
IsBest xs need None = (k : ℕ) → k < length xs → (part_at xs k).blocks < need
IsBest xs need (Some q) = ((i : ℕ) × (i < length xs) × (part_at xs i ≡ q)) × (need ≤ q.blocks) × ((k : ℕ) → k < length xs → need ≤ (part_at xs k).blocks → is_better (part_at xs k) q ≡ false)

-- the best of a list with one part more
best_more : (x : Part) (xs : List Part) (need : ℕ) (o : Option Part) → IsBest xs need o → (b : Bool) → leb need x.blocks ≡ b
    → IsBest (x ∷ xs) need (cond b (Some (better x o)) o)
best_more x xs need None smaller true holds = ((0, omega arith, refl), grind (arith, nat_tests, holds), at)
  where
    at : (k : ℕ) → k < suc (length xs) → need ≤ (part_at (x ∷ xs) k).blocks → is_better (part_at (x ∷ xs) k) x ≡ false
    at zero lt le = grind (arith, nat_tests)
    at (suc k) lt le = absurd (omega (arith, smaller k (omega (arith, lt)), le))
best_more x xs need None smaller false holds = at
  where
    at : (k : ℕ) → k < suc (length xs) → (part_at (x ∷ xs) k).blocks < need
    at zero lt = grind (arith, nat_tests, holds)
    at (suc k) lt = smaller k (omega (arith, lt))
best_more x xs need (Some q) is_best false holds = ((suc is_best.0.0, omega (arith, is_best.0.1), is_best.0.2), is_best.1, at)
  where
    at : (k : ℕ) → k < suc (length xs) → need ≤ (part_at (x ∷ xs) k).blocks → is_better (part_at (x ∷ xs) k) q ≡ false
    at zero lt le = absurd (grind (arith, nat_tests, holds, le))
    at (suc k) lt le = is_best.2 k (omega (arith, lt)) le
best_more x xs need (Some q) is_best true holds = go (is_better x q) refl
  where
    go : (b : Bool) → is_better x q ≡ b → IsBest (x ∷ xs) need (Some (cond b x q))
    go true wins = ((0, omega arith, refl), grind (arith, nat_tests, holds), at)
      where
        at : (k : ℕ) → k < suc (length xs) → need ≤ (part_at (x ∷ xs) k).blocks → is_better (part_at (x ∷ xs) k) x ≡ false
        at zero lt le = grind (arith, nat_tests)
        at (suc k) lt le = grind (arith, nat_tests, is_best.2 k (omega (arith, lt)) le, wins)
    go false loses = ((suc is_best.0.0, omega (arith, is_best.0.1), is_best.0.2), is_best.1, at)
      where
        at : (k : ℕ) → k < suc (length xs) → need ≤ (part_at (x ∷ xs) k).blocks → is_better (part_at (x ∷ xs) k) q ≡ false
        at zero lt le = loses
        at (suc k) lt le = is_best.2 k (omega (arith, lt)) le

best_of_filtered : (xs : List Part) (need : ℕ) → IsBest xs need (best (filter (λ p. leb need p.blocks) xs))
best_of_filtered [] need = λ k lt. absurd (omega (arith, lt))
best_of_filtered (x ∷ xs) need = go (best_of_filtered xs need) (leb need x.blocks) refl
  where
    go : IsBest xs need (best (filter (λ p. leb need p.blocks) xs)) → (b : Bool) → leb need x.blocks ≡ b
        → IsBest (x ∷ xs) need (best (cond b (x ∷ filter (λ p. leb need p.blocks) xs) (filter (λ p. leb need p.blocks) xs)))
    go rest true holds = best_more x xs need _ rest true holds
    go rest false holds = best_more x xs need _ rest false holds

pub best_fit_is : (xs : List Part) (need : ℕ) → IsBest xs need (best_fit xs need)
unfolding best_fit
best_fit_is xs need = best_of_filtered xs need

-- there is one best
pub best_only : (xs : List Part) (need : ℕ) (o p : Option Part) → IsBest xs need o → IsBest xs need p → o ≡ p
best_only xs need None None first second = refl
best_only xs need None (Some q) first second = absurd (grind (arith, first second.0.0 second.0.1, second.0.2, second.1))
best_only xs need (Some p) None first second = absurd (grind (arith, second first.0.0 first.0.1, first.0.2, first.1))
best_only xs need (Some p) (Some q) first second =
    let p_loses : is_better p q ≡ false = subst (λ x. is_better x q ≡ false) first.0.2 (second.2 first.0.0 first.0.1 (subst (λ x. need ≤ x.blocks) (sym first.0.2) first.1)) in
    let q_loses : is_better q p ≡ false = subst (λ x. is_better x p ≡ false) second.0.2 (first.2 second.0.0 second.0.1 (subst (λ x. need ≤ x.blocks) (sym second.0.2) second.1)) in
    ap Some (same_part p q (grind (arith, nat_tests, p_loses, q_loses)) (grind (arith, nat_tests, p_loses, q_loses)))

module _ (a s : List Part) (ordered : AreOrdered a s) (need rank : ℕ) (fit : IsFirstFit need s rank) where
  -- no part by size from the place on: none holds the need
  pub none_fits : rank ≡ length s → IsBest a need None
  none_fits past k lt =
      let one = found (is_part (part_at a k)) s no_part (in_sizes a s ordered k lt) in
      let same = is_same (part_at a k) (part_at s one.0) one.2 in
      grind (arith, same, fit.before one.0 (omega (arith, past, one.1)))

  -- else the first is the best
  pub first_is_best : rank < length s → IsBest a need (Some (part_at s rank))
  first_is_best within =
      let one = found (is_part (part_at s rank)) a no_part (in_addresses a s ordered rank within) in
      ((one.0, one.1, is_same (part_at s rank) (part_at a one.0) one.2), fit.after rank (omega arith) within, no_better)
    where
      no_better : (k : ℕ) → k < length a → need ≤ (part_at a k).blocks → is_better (part_at a k) (part_at s rank) ≡ false
      no_better k lt le =
          let one = found (is_part (part_at a k)) s no_part (in_sizes a s ordered k lt) in
          let same = is_same (part_at a k) (part_at s one.0) one.2 in
          subst (λ x. is_better x (part_at s rank) ≡ false) same (elim (cases_order one.0 rank) [
            | inl here ↦ subst (λ i. is_better (part_at s i) (part_at s rank) ≡ false) (sym here) (grind (arith, nat_tests))
            | inr (inl below) ↦ absurd (grind (arith, same, le, fit.before one.0 below))
            | inr (inr above) ↦ grind (arith, nat_tests, ordered.ranked rank one.0 no_part above one.1)
          ])

-- ---- what is left

-- the part that keeps what is behind the need
abbrev pub rest_part : Part → ℕ → Part
rest_part p need = record { address = p.address + need; blocks = p.blocks - need }

-- its front is taken: the part is gone, or the rest stands in its place
pub without_at : (xs : List Part) (need place : ℕ) → place < length xs
    → ((k : ℕ) → k < place → (part_at xs k).address ≡ (part_at xs place).address → ⊥)
    → without xs (part_at xs place).address need ≡ cond (eqb (part_at xs place).blocks need) (remove xs place) (insert (remove xs place) place (rest_part (part_at xs place) need))
without_at [] need place lt other = absurd (omega (arith, lt))
without_at (x ∷ xs) need zero lt other = go (eqb x.blocks need) refl
  where
    go : (b : Bool) → eqb x.blocks need ≡ b → without (x ∷ xs) x.address need ≡ cond b xs (rest_part x need ∷ xs)
    go true whole = grind (arith, nat_tests, whole)
    go false part = grind (arith, nat_tests, part)
without_at (x ∷ xs) need (suc place) lt other =
    go (without_at xs need place (omega (arith, lt)) (λ k below same. other (suc k) (omega (arith, below)) same)) (eqb (part_at xs place).blocks need) refl
  where
    go : without xs (part_at xs place).address need ≡ cond (eqb (part_at xs place).blocks need) (remove xs place) (insert (remove xs place) place (rest_part (part_at xs place) need))
        → (b : Bool) → eqb (part_at xs place).blocks need ≡ b
        → without (x ∷ xs) (part_at xs place).address need ≡ cond b (x ∷ remove xs place) (x ∷ insert (remove xs place) place (rest_part (part_at xs place) need))
    go rest true whole = grind (arith, nat_tests, whole, rest, other 0 (omega arith))
    go rest false part = grind (arith, nat_tests, part, rest, other 0 (omega arith))
