-- What an edit of a list of parts leaves: its order, its parts, and the blocks that they have.
use Rattle.std.proofs.Common.{◌≡◌, ℕ, zero, suc, ◌+◌, ◌-◌, ◌<◌, ◌≤◌, Bool, true, cond, List, [], ◌∷◌, length, get_or, sym, subst, inl, inr, refl, arith}
use Rattle.std.specs.List.{AllPairs, All, insert, remove, count_by, sum_by}
use Rattle.std.proofs.lemmas.Bool.{cases_lt, cases_order, cases_Bool}
use Rattle.std.proofs.lemmas.List.Sums.{sum_by-cons}
use Rattle.std.proofs.lemmas.List.Edits.{length-insert, get_or-insert_below, get_or-insert_at, get_or-insert_above, length-remove, get_or-remove_below, get_or-remove_above}

-- ---- sums

pub sum-insert : {X : Type 0} (f : X → ℕ) (xs : List X) (i : ℕ) (y : X) → sum_by f (insert xs i y) ≡ sum_by f xs + f y
sum-insert f xs zero y = grind (arith, sum_by-cons f y xs)
sum-insert f [] (suc i) y = refl
sum-insert f (x ∷ xs) (suc i) y = grind (arith, sum_by-cons f x xs, sum_by-cons f x (insert xs i y), sum-insert f xs i y)

pub sum-remove : {X : Type 0} (f : X → ℕ) (xs : List X) (i : ℕ) (d : X) → i < length xs → sum_by f (remove xs i) + f (get_or xs i d) ≡ sum_by f xs
sum-remove f [] i d lt = absurd (omega (arith, lt))
sum-remove f (x ∷ xs) zero d lt = grind (arith, sum_by-cons f x xs)
sum-remove f (x ∷ xs) (suc i) d lt = grind (arith, sum_by-cons f x xs, sum_by-cons f x (remove xs i), sum-remove f xs i d (omega (arith, lt)))

-- ---- counts

-- where one passes, some are counted
pub counted : {X : Type 0} (test : X → Bool) (xs : List X) (i : ℕ) (d : X) → i < length xs → test (get_or xs i d) ≡ true → 1 ≤ count_by test xs
counted test xs i d lt passes = grind (arith, sum-remove (λ x. cond (test x) 1 0) xs i d lt, passes)

-- where some are counted, one passes
pub found : {X : Type 0} (test : X → Bool) (xs : List X) (d : X) → 1 ≤ count_by test xs → (i : ℕ) × (i < length xs) × (test (get_or xs i d) ≡ true)
found test [] d some = absurd (omega (arith, some))
found test (x ∷ xs) d some = elim (cases_Bool (test x)) [
  | inl yes_ ↦ (0, omega arith, yes_)
  | inr no_ ↦
      let e = sum_by-cons (λ y. cond (test y) 1 0) x xs in
      let rest = found test xs d (grind (arith, e, no_, some)) in
      (suc rest.0, omega (arith, rest.1), rest.2)
]

-- ---- order

-- an element between those that R puts before it and those that it puts behind it
pub all_pairs_insert : {X : Type 0} (R : X → X → Type 0) (xs : List X) (n : ℕ) (y : X) → n ≤ length xs → AllPairs R xs
    → ((k : ℕ) (d : X) → k < n → R (get_or xs k d) y) → ((k : ℕ) (d : X) → n ≤ k → k < length xs → R y (get_or xs k d))
    → AllPairs R (insert xs n y)
all_pairs_insert {X} R xs n y within pairs before after i j d lt in_range =
    let new = insert xs n y in
    let len = length-insert xs n y within in
    let below : (i : ℕ) → i < n → get_or new i d ≡ get_or xs i d = λ i h. get_or-insert_below xs n y d i h within in
    let here : get_or new n d ≡ y = get_or-insert_at xs n y d within in
    let above : (i : ℕ) → n < i → get_or new i d ≡ get_or xs (i - 1) d = λ i h. subst (λ q. get_or new q d ≡ get_or xs (i - 1) d) {x = i - 1 + 1} (omega arith) (get_or-insert_above xs n y d (i - 1) (omega arith) within) in
    let Goal : X → X → Type 0 = R in
    elim (cases_order j n) [
      | inl same ↦ subst (λ z. R z (get_or new j d)) (sym (below i (omega arith))) (subst (λ k. R (get_or xs i d) (get_or new k d)) (sym same) (subst (λ z. R (get_or xs i d) z) (sym here) (before i d (omega arith))))
      | inr (inl j_below) ↦ subst (λ z. R z (get_or new j d)) (sym (below i (omega arith))) (subst (λ z. R (get_or xs i d) z) (sym (below j j_below)) (pairs i j d lt (omega arith)))
      | inr (inr j_above) ↦ subst (λ z. R (get_or new i d) z) (sym (above j j_above)) (elim (cases_order i n) [
        | inl same ↦ subst (λ k. R (get_or new k d) (get_or xs (j - 1) d)) (sym same) (subst (λ z. R z (get_or xs (j - 1) d)) (sym here) (after (j - 1) d (omega arith) (omega (arith, len))))
        | inr (inl i_below) ↦ subst (λ z. R z (get_or xs (j - 1) d)) (sym (below i i_below)) (pairs i (j - 1) d (omega arith) (omega (arith, len)))
        | inr (inr i_above) ↦ subst (λ z. R z (get_or xs (j - 1) d)) (sym (above i i_above)) (pairs (i - 1) (j - 1) d (omega arith) (omega (arith, len)))
      ])
    ]

pub all_insert : {X : Type 0} (P : X → Type 0) (xs : List X) (n : ℕ) (y : X) → n ≤ length xs → All P xs → P y → All P (insert xs n y)
all_insert {X} P xs n y within all holds k d lt =
    let new = insert xs n y in
    let len = length-insert xs n y within in
    elim (cases_order k n) [
      | inl same ↦ subst (λ q. P (get_or new q d)) (sym same) (subst P (sym (get_or-insert_at xs n y d within)) holds)
      | inr (inl below) ↦ subst P (sym (get_or-insert_below xs n y d k below within)) (all k d (omega (arith, below, within)))
      | inr (inr above) ↦ subst (λ q. P (get_or new q d)) {x = k - 1 + 1} (omega arith) (subst P (sym (get_or-insert_above xs n y d (k - 1) (omega arith) within)) (all (k - 1) d (omega (arith, len))))
    ]

pub all_remove : {X : Type 0} (P : X → Type 0) (xs : List X) (n : ℕ) → n < length xs → All P xs → All P (remove xs n)
all_remove {X} P xs n within all k d lt =
    let len = length-remove xs n within in
    elim (cases_lt k n) [
      | inl below ↦ subst P (sym (get_or-remove_below xs n d k below within)) (all k d (omega (arith, below, within)))
      | inr above ↦ subst P (sym (get_or-remove_above xs n d k above within)) (all (k + 1) d (omega (arith, len)))
    ]
