-- What holds of all things when they are only moved about.
use Rattle.std.proofs.Common.{◌≡◌, ◌∙◌, ℕ, ◌+◌, Bool, true, false, cond, List, [], ◌∷◌, ap, refl, arith}
use Rattle.std.specs.Prelude.{All, sum_by}
use Rattle.std.proofs.lemmas.List.Elements.{All-cons}
use Rattle.std.proofs.lemmas.List.Sums.{sum_by-cons}
use Rattle.oc_layout.specs.declared.cells.Cell.{Cell}
use Rattle.oc_slots.proofs.Things.{tail_of}

none_counted : (p : Cell → Bool) (xs : List Cell) → All (λ c. p c ≡ false) xs → sum_by (λ c. cond (p c) 1 0) xs ≡ 0
none_counted p [] all = refl
none_counted p (x ∷ xs) all =
    omega (arith, sum_by-cons (λ c. cond (p c) 1 0) x xs, ap {B = ℕ} (λ b. cond b 1 0) (all 0 x (omega arith)), none_counted p xs (tail_of (λ c. p c ≡ false) x xs all))

uncounted : (p : Cell → Bool) (xs : List Cell) → sum_by (λ c. cond (p c) 1 0) xs ≡ 0 → All (λ c. p c ≡ false) xs
uncounted p [] none = λ k d lt. absurd (omega (arith, lt))
uncounted p (x ∷ xs) none = go (p x) refl (λ rest. uncounted p xs rest)
  where
    sums : sum_by (λ c. cond (p c) 1 0) (x ∷ xs) ≡ cond (p x) 1 0 + sum_by (λ c. cond (p c) 1 0) xs
    sums = sum_by-cons (λ c. cond (p c) 1 0) x xs

    go : (b : Bool) → p x ≡ b → (sum_by (λ c. cond (p c) 1 0) xs ≡ 0 → All (λ c. p c ≡ false) xs) → All (λ c. p c ≡ false) (x ∷ xs)
    go true e again = absurd (omega (arith, none, sums, ap {B = ℕ} (λ b. cond b 1 0) e))
    go false e again = All-cons (λ c. p c ≡ false) x xs e (again (omega (arith, none, sums, ap {B = ℕ} (λ b. cond b 1 0) e)))

-- what holds of all of a list holds of all of one that counts the same
pub moved_all : (xs ys : List Cell) (p : Cell → Bool) → ((f : Cell → ℕ) → sum_by f ys ≡ sum_by f xs) → All (λ c. p c ≡ false) xs → All (λ c. p c ≡ false) ys
moved_all xs ys p law all = uncounted p ys (law (λ c. cond (p c) 1 0) ∙ none_counted p xs all)
