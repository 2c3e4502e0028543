-- Slots that are named once, by how often each is named.
use Rattle.std.proofs.Common.{◌≡◌, inl, inr, ℕ, suc, ◌+◌, ◌≤◌, false, cond, List, [], ◌∷◌, ◌++◌, get_or, ap, refl, arith}
use Rattle.std.specs.Prelude.{All, AllPairs, sum_by}
use Rattle.std.proofs.lemmas.Bool.{cases_Bool}
use Rattle.std.proofs.lemmas.List.Elements.{All-nil, All-cons}
use Rattle.std.proofs.lemmas.List.Kept.{AllPairs-cons}
use Rattle.std.proofs.lemmas.List.Sums.{sum_by-append, sum_by-cons}
use Rattle.oc_slots.specs.declared.slot.SlotId.{SlotId}
use Rattle.oc_slots.specs.Maps.{is_same}
use Rattle.oc_slots.proofs.Things.{tail_of}
use Rattle.oc_slots.proofs.SameSlots.{same_itself, flipped, differs}

-- ---- how often a slot is named

module _ {X : Type 0} (key : X → SlotId) where
  abbrev pub count : SlotId → List X → ℕ
  count id xs = sum_by (λ x. cond (is_same (key x) id) 1 0) xs

  pub count_front : (id : SlotId) (x : X) (xs : List X) → count id (x ∷ xs) ≡ cond (is_same (key x) id) 1 0 + count id xs
  count_front id x xs = sum_by-cons (λ x. cond (is_same (key x) id) 1 0) x xs

  pub count_both : (id : SlotId) (xs ys : List X) → count id (xs ++ ys) ≡ count id xs + count id ys
  count_both id xs ys = sum_by-append (λ x. cond (is_same (key x) id) 1 0) xs ys

  pub none_named : (id : SlotId) (xs : List X) → All (λ x. is_same (key x) id ≡ false) xs → count id xs ≡ 0
  none_named id [] none = refl
  none_named id (x ∷ xs) none =
      omega (arith, count_front id x xs, ap {B = ℕ} (λ b. cond b 1 0) (none 0 x (omega arith)), none_named id xs (tail_of (λ x. is_same (key x) id ≡ false) x xs none))

  pub no_name : (id : SlotId) (xs : List X) → count id xs ≡ 0 → All (λ x. is_same (key x) id ≡ false) xs
  no_name id [] none = All-nil (λ x. is_same (key x) id ≡ false)
  no_name id (x ∷ xs) none = elim (cases_Bool (is_same (key x) id)) [
    | inl yes_ ↦ absurd (omega (arith, none, count_front id x xs, ap {B = ℕ} (λ b. cond b 1 0) yes_))
    | inr no_ ↦ All-cons (λ x. is_same (key x) id ≡ false) x xs no_ (no_name id xs (omega (arith, none, count_front id x xs)))
  ]

  pub named_once : (xs : List X) → AllPairs (λ x y. is_same (key x) (key y) ≡ false) xs → (id : SlotId) → count id xs ≤ 1
  named_once [] distinct id = omega arith
  named_once (x ∷ xs) distinct id = elim (cases_Bool (is_same (key x) id)) [
    | inl yes_ ↦
        let none = none_named id xs (λ k d lt. differs (key x) (key (get_or xs k d)) id (distinct 0 (suc k) d (omega arith) (omega (arith, lt))) yes_) in
        omega (arith, count_front id x xs, ap {B = ℕ} (λ b. cond b 1 0) yes_, none)
    | inr no_ ↦
        let rest = named_once xs (λ i j d lt inside. distinct (suc i) (suc j) d (omega (arith, lt)) (omega (arith, inside))) id in
        omega (arith, count_front id x xs, ap {B = ℕ} (λ b. cond b 1 0) no_, rest)
  ]

  pub once_distinct : (xs : List X) → ((id : SlotId) → count id xs ≤ 1) → AllPairs (λ x y. is_same (key x) (key y) ≡ false) xs
  once_distinct [] once = λ i j d lt inside. absurd (omega (arith, inside))
  once_distinct (x ∷ xs) once =
      let none : count (key x) xs ≡ 0 = omega (arith, once (key x), count_front (key x) x xs, ap {B = ℕ} (λ b. cond b 1 0) (same_itself (key x))) in
      AllPairs-cons (λ x y. is_same (key x) (key y) ≡ false) x xs
      (λ k d lt. flipped (key (get_or xs k d)) (key x) (no_name (key x) xs none k d lt))
      (once_distinct xs (λ id. omega (arith, once id, count_front id x xs)))
