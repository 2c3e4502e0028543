-- An entry put in at its place, entries taken away, and entries that move.
use Rattle.std.proofs.Common.{◌≡◌, ℕ, zero, suc, ◌-◌, ◌<◌, ◌≤◌, Bool, true, false, cond, List, [], ◌∷◌, ◌++◌, length, take, drop, filter, reverse, slice_set, get_or, refl, sym, ap, ◌∙◌, arith, nat_lt, nat_le, ◌==◌, ◌⊎◌, inl, inr}
use Rattle.std.proofs.lemmas.Bool.Decides.{nat_tests}
use Rattle.std.proofs.lemmas.List.{append_cancel_right, reverse-append}
use Rattle.std.proofs.Math.Seq.{take-suc, drop-cons}
use Rattle.oc_model.specs.declared.value.Entry.{Entry}
use Rattle.oc_model.specs.Stores.{entered}
use Rattle.oc_heap.specs.Places.{place_of, is_at}

-- ---- an entry put in

compared : (x y : ℕ) → (x < y) ⊎ ((x ≡ y) ⊎ (y < x))
compared zero zero = inr (inl refl)
compared zero (suc y) = inl (omega arith)
compared (suc x) zero = inr (inr (omega arith))
compared (suc x) (suc y) = elim (compared x y) [ inl a ↦ inl (omega arith) | inr r ↦ elim r [ inl e ↦ inr (inl (ap suc e)) | inr b ↦ inr (inr (omega arith)) ] ]

module _ (e : Entry) where
  -- one entry in front, as the two ids compare
  over : (f : Entry) (fs : List Entry) → (e.id == f.id) ≡ false → nat_lt e.id f.id ≡ false → entered e (f ∷ fs) ≡ f ∷ entered e fs
  over f fs a b = ap (λ t. cond t (e ∷ fs) (cond (nat_lt e.id f.id) (e ∷ f ∷ fs) (f ∷ entered e fs))) a ∙ ap (λ t. cond t (e ∷ f ∷ fs) (f ∷ entered e fs)) b

  before : (f : Entry) (fs : List Entry) → (e.id == f.id) ≡ false → nat_lt e.id f.id ≡ true → entered e (f ∷ fs) ≡ e ∷ f ∷ fs
  before f fs a b = ap (λ t. cond t (e ∷ fs) (cond (nat_lt e.id f.id) (e ∷ f ∷ fs) (f ∷ entered e fs))) a ∙ ap (λ t. cond t (e ∷ f ∷ fs) (f ∷ entered e fs)) b

  same : (f : Entry) (fs : List Entry) → (e.id == f.id) ≡ true → entered e (f ∷ fs) ≡ e ∷ fs
  same f fs a = ap (λ t. cond t (e ∷ fs) (cond (nat_lt e.id f.id) (e ∷ f ∷ fs) (f ∷ entered e fs))) a

  pub entered_is : (es : List Entry) → entered e es ≡ cond (is_at es (place_of e.id es) e.id) (slice_set es (place_of e.id es) e) (take (place_of e.id es) es ++ e ∷ drop (place_of e.id es) es)
  entered_is [] = refl
  entered_is (f ∷ fs) =
      let form = λ (p : ℕ). cond (is_at (f ∷ fs) p e.id) (slice_set (f ∷ fs) p e) (take p (f ∷ fs) ++ e ∷ drop p (f ∷ fs)) in
      elim (compared e.id f.id) [
        | inl less ↦
            let a : (e.id == f.id) ≡ false = grind (arith, nat_tests) in
            let a' : (f.id == e.id) ≡ false = grind (arith, nat_tests) in
            let b : nat_lt e.id f.id ≡ true = grind (arith, nat_tests) in
            let p : nat_le e.id f.id ≡ true = grind (arith, nat_tests) in
            before f fs a b ∙ sym (ap (λ t. form (cond t 0 (suc (place_of e.id fs)))) p ∙ ap (λ t. cond t (e ∷ fs) (e ∷ f ∷ fs)) a')
        | inr r ↦ elim r [
          | inl eq ↦
              let a : (e.id == f.id) ≡ true = grind (arith, nat_tests) in
              let a' : (f.id == e.id) ≡ true = grind (arith, nat_tests) in
              let p : nat_le e.id f.id ≡ true = grind (arith, nat_tests) in
              same f fs a ∙ sym (ap (λ t. form (cond t 0 (suc (place_of e.id fs)))) p ∙ ap (λ t. cond t (e ∷ fs) (e ∷ f ∷ fs)) a')
          | inr more ↦
              let a : (e.id == f.id) ≡ false = grind (arith, nat_tests) in
              let b : nat_lt e.id f.id ≡ false = grind (arith, nat_tests) in
              let p : nat_le e.id f.id ≡ false = grind (arith, nat_tests) in
              over f fs a b ∙ ap (λ es. f ∷ es) (entered_is fs)
              ∙ elim (is_at fs (place_of e.id fs) e.id) as (λ t. f ∷ cond t (slice_set fs (place_of e.id fs) e) (take (place_of e.id fs) fs ++ e ∷ drop (place_of e.id fs) fs) ≡ cond t (f ∷ slice_set fs (place_of e.id fs) e) (f ∷ (take (place_of e.id fs) fs ++ e ∷ drop (place_of e.id fs) fs))) [ true ↦ refl | false ↦ refl ]
              ∙ sym (ap (λ t. form (cond t 0 (suc (place_of e.id fs)))) p)
        ]
      ]

-- ---- entries taken away

module _ {X : Type 0} (p : X → Bool) where
  kept_first : (x y : X) (ys : List X) → x ≡ y → p x ≡ true → y ∷ filter p ys ≡ filter p (y ∷ ys)
  kept_first x y ys e h = sym (ap (λ b. cond b (y ∷ filter p ys) (filter p ys)) (ap p (sym e) ∙ h))

  pub kept_turn : (k : ℕ) (xs : List X) (x : X) → k < length xs → x ≡ get_or (take (suc k) xs ++ filter p (drop (suc k) xs)) k x → p x ≡ true
      → take (suc k) xs ++ filter p (drop (suc k) xs) ≡ take k xs ++ filter p (drop k xs)
  kept_turn k [] x lt e h = absurd (omega arith)
  kept_turn zero (y ∷ ys) x lt e h = kept_first x y ys e h
  kept_turn (suc k) (y ∷ ys) x lt e h = ap (λ es. y ∷ es) (kept_turn k ys x (omega arith) e h)

-- ---- entries that move

module _ {X : Type 0} where
  last_same : (xs ys : List X) (x y : X) → xs ++ x ∷ [] ≡ ys ++ y ∷ [] → x ≡ y
  last_same xs ys x y e =
      let turned : x ∷ reverse xs ≡ y ∷ reverse ys = sym (reverse-append xs (x ∷ [])) ∙ ap reverse e ∙ reverse-append ys (y ∷ []) in
      cc

  ends : (xs ys : List X) (last : X) (k : ℕ) → k < length xs → take (suc k) xs ≡ ys ++ last ∷ [] → get_or xs k last ≡ last
  ends xs ys last k lt e = last_same (take k xs) ys (get_or xs k last) last (sym (take-suc xs k last lt) ∙ e)

  front_is : (xs ys : List X) (last : X) (k : ℕ) → k < length xs → take (suc k) xs ≡ ys ++ last ∷ [] → ys ≡ take k xs
  front_is xs ys last k lt e =
      append_cancel_right ys (take k xs) (last ∷ []) (sym e ∙ take-suc xs k last lt ∙ ap (λ x. take k xs ++ x ∷ []) (ends xs ys last k lt e))

  rest_is : (xs ys : List X) (last : X) (k : ℕ) → k < length xs → take (suc k) xs ≡ ys ++ last ∷ [] → reverse (drop k xs) ≡ reverse (drop (suc k) xs) ++ last ∷ []
  rest_is xs ys last k lt e =
      ap reverse (drop-cons xs k last lt) ∙ reverse-append (get_or xs k last ∷ []) (drop (suc k) xs)
      ∙ ap (λ x. reverse (drop (suc k) xs) ++ x ∷ []) (ends xs ys last k lt e)

  -- the last of what is left has moved
  pub popped_front : (xs ys : List X) (last : X) (i : ℕ) → 1 ≤ i → i ≤ length xs → take i xs ≡ ys ++ last ∷ [] → ys ≡ take (i - 1) xs
  popped_front xs ys last zero one le e = absurd (omega arith)
  popped_front xs ys last (suc k) one le e = let q : suc k - 1 ≡ k = omega arith in front_is xs ys last k (omega arith) e ∙ ap (λ n. take n xs) (sym q)

  pub popped_more : (xs ys : List X) (last : X) (i : ℕ) → 1 ≤ i → i ≤ length xs → take i xs ≡ ys ++ last ∷ [] → reverse (drop (i - 1) xs) ≡ reverse (drop i xs) ++ last ∷ []
  popped_more xs ys last zero one le e = absurd (omega arith)
  popped_more xs ys last (suc k) one le e = let q : suc k - 1 ≡ k = omega arith in ap (λ n. reverse (drop n xs)) q ∙ rest_is xs ys last k (omega arith) e
