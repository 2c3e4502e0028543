-- Free parts are given by their blocks.
use Rattle.std.proofs.Common.{◌≡◌, ℕ, suc, ◌+◌, ◌<◌, ◌≤◌, Bool, true, false, cond, List, [], ◌∷◌, length, sym, ap, ap₂, subst, inl, inr, refl, arith}
use Rattle.std.proofs.lemmas.Bool.{cases_lt}
use Rattle.std.proofs.lemmas.Bool.Decides.{nat_tests}
use Rattle.std.proofs.lemmas.List.Sums.{sum_by-cons}
use Rattle.oc_model.specs.Space.{Part}
use Rattle.oc_free.specs.FreeParts.{AreFree, end_of, has_block, free_at}
use Rattle.oc_free.specs.Orders.{no_part, part_at}
use Rattle.oc_free.proofs.Edits.{counted, found}
use Rattle.oc_free.proofs.Ordered.{same_part}

rest_free : (x : Part) (xs : List Part) → AreFree (x ∷ xs) → AreFree xs
rest_free x xs free = record {
  in_range = λ k d lt. free.in_range (suc k) d (omega (arith, lt));
  apart = λ i j d lt in_range. free.apart (suc i) (suc j) d (omega (arith, lt)) (omega (arith, in_range));
}

-- no block before the first part is free
from_first : (x : Part) (xs : List Part) (k : ℕ) → AreFree (x ∷ xs) → 1 ≤ free_at (x ∷ xs) k → x.address ≤ k
from_first x xs k free some = go (found (has_block k) (x ∷ xs) no_part some)
  where
    go : (i : ℕ) × (i < length (x ∷ xs)) × (has_block k (part_at (x ∷ xs) i) ≡ true) → x.address ≤ k
    go one = elim (cases_lt 0 one.0) [
      | inl behind ↦ grind (arith, nat_tests, one.2, free.apart 0 one.0 no_part behind one.1)
      | inr first ↦ let here : one.0 ≡ 0 = omega (arith, first) in grind (arith, nat_tests, subst (λ i. has_block k (part_at (x ∷ xs) i) ≡ true) here one.2)
    ]

-- nor is the one behind it
not_behind_first : (x : Part) (xs : List Part) → AreFree (x ∷ xs) → free_at (x ∷ xs) (end_of x) ≡ 0
not_behind_first x xs free = elim (cases_lt 0 (free_at (x ∷ xs) (end_of x))) [
  | inl some ↦ absurd (go (found (has_block (end_of x)) (x ∷ xs) no_part some))
  | inr none ↦ omega (arith, none)
]
  where
    go : (i : ℕ) × (i < length (x ∷ xs)) × (has_block (end_of x) (part_at (x ∷ xs) i) ≡ true) → ⊥
    go one = elim (cases_lt 0 one.0) [
      | inl behind ↦ grind (arith, nat_tests, one.2, free.apart 0 one.0 no_part behind one.1)
      | inr first ↦ let here : one.0 ≡ 0 = omega (arith, first) in grind (arith, nat_tests, subst (λ i. has_block (end_of x) (part_at (x ∷ xs) i) ≡ true) here one.2)
    ]

-- the first block is free, and so is each of its part's
is_free : (x : Part) (xs : List Part) (k : ℕ) → x.address ≤ k → k < end_of x → 1 ≤ free_at (x ∷ xs) k
is_free x xs k from to = counted (has_block k) (x ∷ xs) 0 no_part (omega arith) (grind (arith, nat_tests, from, to))

first_address : (x : Part) (xs : List Part) (y : Part) (ys : List Part) → AreFree (x ∷ xs) → AreFree (y ∷ ys)
    → ((k : ℕ) → free_at (x ∷ xs) k ≡ free_at (y ∷ ys) k) → y.address ≤ x.address
first_address x xs y ys free_x free_y same =
    let size = free_x.in_range 0 no_part (omega arith) in
    from_first y ys x.address free_y (subst (λ n. 1 ≤ n) (same x.address) (is_free x xs x.address (omega arith) (omega (arith, size))))

first_end : (x : Part) (xs : List Part) (y : Part) (ys : List Part) → AreFree (x ∷ xs) → y.address ≤ end_of x
    → ((k : ℕ) → free_at (x ∷ xs) k ≡ free_at (y ∷ ys) k) → end_of y ≤ end_of x
first_end x xs y ys free_x starts same = elim (cases_lt (end_of x) (end_of y)) [
  | inl further ↦ absurd (omega (arith, is_free y ys (end_of x) starts further, same (end_of x), not_behind_first x xs free_x))
  | inr within ↦ within
]

pub by_blocks : (xs ys : List Part) → AreFree xs → AreFree ys → ((k : ℕ) → free_at xs k ≡ free_at ys k) → xs ≡ ys
by_blocks [] [] free_x free_y same = refl
by_blocks [] (y ∷ ys) free_x free_y same = let size = free_y.in_range 0 no_part (omega arith) in absurd (omega (arith, same y.address, is_free y ys y.address (omega arith) (omega (arith, size))))
by_blocks (x ∷ xs) [] free_x free_y same = let size = free_x.in_range 0 no_part (omega arith) in absurd (omega (arith, same x.address, is_free x xs x.address (omega arith) (omega (arith, size))))
by_blocks (x ∷ xs) (y ∷ ys) free_x free_y same =
    let back : (k : ℕ) → free_at (y ∷ ys) k ≡ free_at (x ∷ xs) k = λ k. sym (same k) in
    let addresses : x.address ≡ y.address = omega (arith, first_address x xs y ys free_x free_y same, first_address y ys x xs free_y free_x back) in
    let ends : end_of x ≡ end_of y = omega (arith, first_end x xs y ys free_x (omega (arith, addresses)) same, first_end y ys x xs free_y (omega (arith, addresses)) back) in
    let first : x ≡ y = same_part x y addresses (omega (arith, addresses, ends)) in
    let rest : (k : ℕ) → free_at xs k ≡ free_at ys k = λ k.
    omega (arith, sum_by-cons (λ p. cond (has_block k p) 1 0) x xs, sum_by-cons (λ p. cond (has_block k p) 1 0) y ys, same k, ap {B = ℕ} (λ (p : Part). cond (has_block k p) 1 0) first) in
    ap₂ (λ p ps. p ∷ ps) first (by_blocks xs ys (rest_free x xs free_x) (rest_free y ys free_y) rest)

-- a block is free once
pub free_once : (parts : List Part) → AreFree parts → (k : ℕ) → free_at parts k ≤ 1
free_once [] free k = omega arith
free_once (p ∷ ps) free k =
    let rest = free_once ps (rest_free p ps free) k in
    let more = sum_by-cons (λ p. cond (has_block k p) 1 0) p ps in
    elim (cases_lt 0 (free_at ps k)) [
      | inl some ↦
          let one = found (has_block k) ps no_part some in
          let apart = free.apart 0 (suc one.0) no_part (omega arith) (omega (arith, one.1)) in
          let not : has_block k p ≡ false = grind (arith, nat_tests, one.2, apart) in
          omega (arith, rest, more, ap {B = ℕ} (λ b. cond b 1 0) not)
      | inr none ↦ go (has_block k p) refl (omega (arith, none)) more
    ]
  where
    go : (b : Bool) → has_block k p ≡ b → free_at ps k ≡ 0 → free_at (p ∷ ps) k ≡ cond (has_block k p) 1 0 + free_at ps k → free_at (p ∷ ps) k ≤ 1
    go true e none more = omega (arith, none, more, ap {B = ℕ} (λ b. cond b 1 0) e)
    go false e none more = omega (arith, none, more, ap {B = ℕ} (λ b. cond b 1 0) e)
