-- Things that own blocks of their own are no more than the blocks.
use Rattle.std.proofs.Common.{◌≡◌, ℕ, zero, suc, ◌+◌, ◌<◌, ◌≤◌, true, cond, List, [], ◌∷◌, length, ap, subst, inl, inr, refl, arith}
use Rattle.std.specs.List.{All}
use Rattle.std.proofs.lemmas.Bool.{cases_lt}
use Rattle.std.proofs.lemmas.Bool.Decides.{nat_tests}
use Rattle.std.proofs.lemmas.List.Sums.{sum_by-cons}
use Rattle.oc_layout.specs.declared.cells.Cell.{Cell}
use Rattle.oc_room.specs.Rooms.{owns, owners}
use Rattle.oc_room.proofs.Counting.{no_cell, some_blocks}

abbrev sum_to : ℕ → (ℕ → ℕ) → ℕ
sum_to zero f = 0
sum_to (suc n) f = f n + sum_to n f

sum_of_sums : (n : ℕ) (f g h : ℕ → ℕ) → ((k : ℕ) → h k ≡ f k + g k) → sum_to n h ≡ sum_to n f + sum_to n g
sum_of_sums zero f g h e = refl
sum_of_sums (suc n) f g h e = omega (arith, e n, sum_of_sums n f g h e)

at_most : (n : ℕ) (f : ℕ → ℕ) → ((k : ℕ) → f k ≤ 1) → sum_to n f ≤ n
at_most zero f one = omega arith
at_most (suc n) f one = omega (arith, one n, at_most n f one)

at_least : (n k : ℕ) (f : ℕ → ℕ) → k < n → 1 ≤ f k → 1 ≤ sum_to n f
at_least zero k f lt some = absurd (omega (arith, lt))
at_least (suc n) k f lt some = elim (cases_lt k n) [
  | inl below ↦ omega (arith, at_least n k f below some)
  | inr last ↦ let same : k ≡ n = omega (arith, lt, last) in omega (arith, subst (λ i. 1 ≤ f i) same some)
]

rest_of_all : {X : Type 0} (P : X → Type 0) (x : X) (xs : List X) → All P (x ∷ xs) → All P xs
rest_of_all P x xs all = λ k d lt. all (suc k) d (omega (arith, lt))

module _ (unit n : ℕ) (pos : 0 < unit) where
  few_in : (cells : List Cell) → All (λ c. 1 ≤ c.len) cells → All (λ c. c.at < n) cells → length cells ≤ sum_to n (owners unit cells)
  few_in [] some inside = omega arith
  few_in (c ∷ cs) some inside =
      let rest = few_in cs (rest_of_all (λ c. 1 ≤ c.len) c cs some) (rest_of_all (λ c. c.at < n) c cs inside) in
      let sums = sum_of_sums n (λ k. cond (owns unit k c) 1 0) (owners unit cs) (owners unit (c ∷ cs)) (λ k. sum_by-cons (λ c. cond (owns unit k c) 1 0) c cs) in
      let blocks = some_blocks unit c.len pos (some 0 no_cell (omega arith)) in
      let here : owns unit c.at c ≡ true = grind (arith, nat_tests, blocks) in
      let one : 1 ≤ cond (owns unit c.at c) 1 0 = omega (arith, ap {B = ℕ} (λ b. cond b 1 0) here) in
      let own = at_least n c.at (λ k. cond (owns unit k c) 1 0) (inside 0 no_cell (omega arith)) one in
      omega (arith, rest, sums, own)

  -- no more things than blocks
  pub few : (cells : List Cell) → All (λ c. 1 ≤ c.len) cells → All (λ c. c.at < n) cells → ((k : ℕ) → owners unit cells k ≤ 1) → length cells ≤ n
  few cells some inside apart = omega (arith, few_in cells some inside, at_most n (owners unit cells) apart)
