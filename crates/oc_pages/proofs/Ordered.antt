-- Numbers that are put in order, each once.
use Rattle.std.proofs.Common.{◌≡◌, ℕ, ◌+◌, ◌-◌, ◌<◌, ◌≤◌, inl, inr, List, [], ◌∷◌, ◌++◌, length, take, get_or, refl, sym, ◌∙◌, ap, subst, arith, length-append, length-take, get_or-take}
use Rattle.std.specs.Prelude.{AllPairs, Contains, ◌↔◌}
use Rattle.std.specs.List.Sorted.{IsNonDecreasing, IsPermutation}
use Rattle.std.proofs.lemmas.Bool.{cases_lt}
use Rattle.std.proofs.lemmas.List.{take_more, take_all, get_or_default, get_or_append_left, get_or-append_right}
use Rattle.std.proofs.lemmas.List.Elements.{Contains-push, Contains-push_cases, Contains-append_left, Contains-get_or}
use Rattle.std.proofs.lemmas.List.Sorted.{Contains-permutation, IsPermutation-sym}
use Rattle.oc_pages.specs.Order.{AreAscending}

-- the numbers so far, in order and each once
pub record IsOnce (numbers once : List ℕ) : Type 0 where
  pub ascend : AllPairs (λ m n. m < n) once
  pub exact : (n : ℕ) → Contains once n ↔ Contains numbers n

pub once_none : IsOnce [] []
once_none = record { ascend = λ i j d below lt. absurd (omega (arith, lt)); exact = λ n. (λ h. h, λ h. h) }

-- an earlier number isn't greater
earlier : (numbers : List ℕ) (k n : ℕ) → IsNonDecreasing numbers → k < length numbers → Contains (take k numbers) n → n ≤ get_or numbers k 0
earlier numbers k n ordered lt is =
    let at = is.0 in
    let below : at < k = omega (arith, is.1, length-take k numbers) in
    let value : get_or numbers at 0 ≡ n = get_or_default numbers at 0 n (omega (arith, below, lt)) ∙ sym (get_or-take k numbers at n below) ∙ is.2 in
    omega (arith, value, ordered at k 0 (omega (arith, below)) lt)

more_is : (numbers : List ℕ) (k : ℕ) → k < length numbers → take (k + 1) numbers ≡ take k numbers ++ get_or numbers k 0 ∷ []
more_is numbers k lt = take_more numbers k 0 lt

-- a number that came before
pub once_same : (numbers once : List ℕ) (k : ℕ) → k < length numbers → IsOnce (take k numbers) once → Contains once (get_or numbers k 0) → IsOnce (take (k + 1) numbers) once
once_same numbers once k lt is there = record {
  ascend = is.ascend;
  exact = λ n. (
    λ h. subst (λ (l : List ℕ). Contains l n) (sym (more_is numbers k lt)) (Contains-append_left (take k numbers) (get_or numbers k 0 ∷ []) n ((is.exact n).0 h)),
    λ h. elim (Contains-push_cases (take k numbers) (get_or numbers k 0) n (subst (λ (l : List ℕ). Contains l n) (more_is numbers k lt) h)) [
      | inl old ↦ (is.exact n).1 old
      | inr same ↦ subst (λ (m : ℕ). Contains once m) same there
    ],
  );
}

-- a greater one
pub once_more : (numbers once : List ℕ) (k : ℕ) → k < length numbers → IsNonDecreasing numbers → IsOnce (take k numbers) once
    → (0 < length once → get_or once (length once - 1) 0 ≡ get_or numbers k 0 → ⊥) → IsOnce (take (k + 1) numbers) (once ++ get_or numbers k 0 ∷ [])
once_more numbers once k lt ordered is other = record {
  ascend = λ i j d below in_range. elim (cases_lt j (length once)) [
    | inl inside ↦
        let a = get_or_append_left once (get_or numbers k 0 ∷ []) d i (omega (arith, below, inside)) in
        let b = get_or_append_left once (get_or numbers k 0 ∷ []) d j inside in
        omega (arith, a, b, is.ascend i j d below inside)
    | inr outside ↦
        let at : j ≡ length once = omega (arith, outside, in_range, length-append once (get_or numbers k 0 ∷ [])) in
        let a = get_or_append_left once (get_or numbers k 0 ∷ []) d i (omega (arith, below, at)) in
        let zero_ : length once - length once ≡ 0 = omega arith in
        let b : get_or (once ++ get_or numbers k 0 ∷ []) j d ≡ get_or numbers k 0 =
        ap (λ (m : ℕ). get_or (once ++ get_or numbers k 0 ∷ []) m d) at
        ∙ get_or-append_right once (get_or numbers k 0 ∷ []) (length once) (length once) d refl (omega arith)
        ∙ ap (λ (m : ℕ). get_or (get_or numbers k 0 ∷ []) m d) zero_ in
        omega (arith, a, b, smaller i d (omega (arith, below, at)))
  ];
  exact = λ n. (
    λ h. subst (λ (l : List ℕ). Contains l n) (sym (more_is numbers k lt)) (elim (Contains-push_cases once (get_or numbers k 0) n h) [
      | inl old ↦ Contains-append_left (take k numbers) (get_or numbers k 0 ∷ []) n ((is.exact n).0 old)
      | inr same ↦ subst (λ (m : ℕ). Contains (take k numbers ++ get_or numbers k 0 ∷ []) m) same (Contains-push (take k numbers) (get_or numbers k 0))
    ]),
    λ h. elim (Contains-push_cases (take k numbers) (get_or numbers k 0) n (subst (λ (l : List ℕ). Contains l n) (more_is numbers k lt) h)) [
      | inl old ↦ Contains-append_left once (get_or numbers k 0 ∷ []) n ((is.exact n).1 old)
      | inr same ↦ subst (λ (m : ℕ). Contains (once ++ get_or numbers k 0 ∷ []) m) same (Contains-push once (get_or numbers k 0))
    ],
  );
}
  where
    at_end : (i : ℕ) → i < length once → length once - 1 ≤ i → i ≡ length once - 1
    at_end i below le = omega (arith, below, le)

    lower : (m n : ℕ) → m ≤ n → (m ≡ n → ⊥) → m < n
    lower m n le apart = elim (cases_lt m n) [ inl less ↦ less | inr ge ↦ absurd (apart (omega (arith, le, ge))) ]

    reached : (i d : ℕ) → i < length once → get_or once i d ≤ get_or numbers k 0
    reached i d below = earlier numbers k (get_or once i d) ordered lt ((is.exact (get_or once i d)).0 (Contains-get_or once i d below))

    smaller : (i d : ℕ) → i < length once → get_or once i d < get_or numbers k 0
    smaller i d below =
        let end = length once - 1 in
        let in_ : end < length once = omega (arith, below) in
        let top : get_or once end 0 < get_or numbers k 0 = lower (get_or once end 0) (get_or numbers k 0) (reached end 0 in_) (other (omega (arith, below))) in
        elim (cases_lt i end) [
          | inl before ↦ let r = is.ascend i end 0 before in_ in let s = get_or_default once i d 0 below in omega (arith, r, s, top)
          | inr not_before ↦ let s : get_or once i d ≡ get_or once end 0 = get_or_default once i d 0 below ∙ ap (λ (m : ℕ). get_or once m 0) (at_end i below not_before) in omega (arith, s, top)
        ]

-- all of them
pub once_all : (numbers once : List ℕ) (k : ℕ) → length numbers ≤ k → IsOnce (take k numbers) once → AreAscending (Contains numbers) once
once_all numbers once k le is =
    let all = subst (λ (l : List ℕ). IsOnce l once) (take_all k numbers le) is in
    record { ascend = all.ascend; exact = all.exact }

-- whatever their order was
pub permuted : (numbers sorted seen once : List ℕ) → IsPermutation numbers sorted → seen ≡ sorted → AreAscending (Contains seen) once → AreAscending (Contains numbers) once
permuted numbers sorted seen once same is_seen is = record {
  ascend = is.ascend;
  exact = λ n. (
    λ h. Contains-permutation sorted numbers n (IsPermutation-sym numbers sorted same) (subst (λ (l : List ℕ). Contains l n) is_seen ((is.exact n).0 h)),
    λ h. (is.exact n).1 (subst (λ (l : List ℕ). Contains l n) (sym is_seen) (Contains-permutation numbers sorted n same h)),
  );
}
