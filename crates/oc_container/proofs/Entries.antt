-- An entry put in at its place.
use Rattle.std.proofs.Common.{◌≡◌, ℕ, zero, suc, ◌<◌, Bool, true, false, cond, List, [], ◌∷◌, slice_set, insert, refl, sym, ap, ◌∙◌, arith, nat_lt, nat_le, ◌==◌, ◌⊎◌, inl, inr}
use Rattle.std.proofs.lemmas.Bool.Decides.{nat_tests}
use Rattle.oc_model.specs.declared.value.Entry.{Entry}
use Rattle.oc_model.specs.Stores.{entered}
use Rattle.oc_container.specs.Places.{place_of, is_at}

compared : (x y : ℕ) → (x < y) ⊎ ((x ≡ y) ⊎ (y < x))
compared zero zero = inr (inl refl)
compared zero (suc y) = inl (omega arith)
compared (suc x) zero = inr (inr (omega arith))
compared (suc x) (suc y) = elim (compared x y) [ inl a ↦ inl (omega arith) | inr r ↦ elim r [ inl e ↦ inr (inl (ap suc e)) | inr b ↦ inr (inr (omega arith)) ] ]

module _ (e : Entry) where
  -- with the entry at this place
  abbrev at_place : List Entry → ℕ → List Entry
  at_place es p = cond (is_at es p e.id) (slice_set es p e) (insert es p e)

  in_front : (f : Entry) (fs : List Entry) (a b : Bool) → (e.id == f.id) ≡ a → nat_lt e.id f.id ≡ b → entered e (f ∷ fs) ≡ cond a (e ∷ fs) (cond b (e ∷ f ∷ fs) (f ∷ entered e fs))
  in_front f fs a b is less = λ i. cond (is i) (e ∷ fs) (cond (less i) (e ∷ f ∷ fs) (f ∷ entered e fs))

  first_place : (f : Entry) (fs : List Entry) (a : Bool) → nat_le e.id f.id ≡ true → (f.id == e.id) ≡ a → at_place (f ∷ fs) (place_of e.id (f ∷ fs)) ≡ cond a (e ∷ fs) (e ∷ f ∷ fs)
  first_place f fs a le is = ap (λ t. at_place (f ∷ fs) (cond t 0 (suc (place_of e.id fs)))) le ∙ ap (λ t. cond t (e ∷ fs) (e ∷ f ∷ fs)) is

  -- an entry is put in at the place of its id
  pub entered_is : (es : List Entry) → entered e es ≡ at_place es (place_of e.id es)
  entered_is [] = refl
  entered_is (f ∷ fs) =
      elim (compared e.id f.id) [
        | inl less ↦
            in_front f fs false true (grind (arith, nat_tests)) (grind (arith, nat_tests)) ∙ sym (first_place f fs false (grind (arith, nat_tests)) (grind (arith, nat_tests)))
        | inr r ↦ elim r [
          | inl eq ↦
              in_front f fs true false (grind (arith, nat_tests)) (grind (arith, nat_tests)) ∙ sym (first_place f fs true (grind (arith, nat_tests)) (grind (arith, nat_tests)))
          | inr more ↦
              let later : nat_le e.id f.id ≡ false = grind (arith, nat_tests) in
              in_front f fs false false (grind (arith, nat_tests)) (grind (arith, nat_tests))
              ∙ ap (λ es. f ∷ es) (entered_is fs)
              ∙ elim (is_at fs (place_of e.id fs) e.id) as (λ t. f ∷ cond t (slice_set fs (place_of e.id fs) e) (insert fs (place_of e.id fs) e) ≡ cond t (f ∷ slice_set fs (place_of e.id fs) e) (f ∷ insert fs (place_of e.id fs) e)) [ true ↦ refl | false ↦ refl ]
              ∙ sym (ap (λ t. at_place (f ∷ fs) (cond t 0 (suc (place_of e.id fs)))) later)
        ]
      ]

  -- the same, where place and test are known
  pub entered_at : (es : List Entry) (p : ℕ) (b : Bool) → p ≡ place_of e.id es → b ≡ is_at es p e.id → entered e es ≡ cond b (slice_set es p e) (insert es p e)
  entered_at es p b place is = entered_is es ∙ ap (at_place es) (sym place) ∙ ap (λ t. cond t (slice_set es p e) (insert es p e)) (sym is)
