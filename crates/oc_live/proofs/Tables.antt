-- Look-ups in lists of triples that have one more, one less, or others in their places.
use Rattle.std.proofs.Common.{◌≡◌, ℕ, Bool, true, false, cond, nat_lt, ◌==◌, List, [], ◌∷◌, map, filter, find, None, Some, option_map, refl, sym, ap, ◌∙◌, ◌⊎◌, inl, inr, arith, true≢false}
use Rattle.std.proofs.lemmas.Bool.Decides.{nat_tests}
use Rattle.oc_model.specs.Lists.{IsOneOf}
use Rattle.oc_refs.specs.declared.table.Ref.{Ref}
use Rattle.oc_refs.specs.Triples.{with_ref}

-- what stands in two equal options is equal
pub some_same : {X : Type 0} (x y : X) → Some x ≡ Some y → x ≡ y
some_same x y e = cc

-- nothing isn't something
pub none_some : {X : Type 0} (x : X) → None ≡ Some x → ⊥
none_some x e = cc

-- numbers that pass the test are equal
pub is_same : (a b : ℕ) → (a == b) ≡ true → a ≡ b
is_same a b h = grind (arith, nat_tests)

-- equal numbers pass the test
pub to_itself : (a b : ℕ) → a ≡ b → (a == b) ≡ true
to_itself a b h = grind (arith, nat_tests)

-- numbers that differ fail the test
pub another : (a b : ℕ) → (a ≡ b → ⊥) → (a == b) ≡ false
another a b differ =
    (elim (a == b) as (λ t. (a == b) ≡ t → t ≡ false) [ true ↦ λ is. absurd (differ (is_same a b is)) | false ↦ λ _. refl ]) refl

-- ---- look-ups

module _ (p : Ref → Bool) where
  -- what is found is in the list and passes the test
  pub found_one : (rs : List Ref) (r : Ref) → find p rs ≡ Some r → IsOneOf r rs × (p r ≡ true)
  found_one [] r h = absurd (none_some r h)
  found_one (q ∷ rs) r h =
      (elim (p q) as (λ b. p q ≡ b → cond b (Some q) (find p rs) ≡ Some r → IsOneOf r (q ∷ rs) × (p r ≡ true)) [
        | true ↦ λ is e. (inl (sym (some_same q r e)), ap p (sym (some_same q r e)) ∙ is)
        | false ↦ λ _ e. let f = found_one rs r e in (inr f.0, f.1)
      ]) refl h

  -- with a triple more it is found, or what was found before
  pub find_more : (r : Ref) (rs : List Ref) → (p r ≡ true → find p rs ≡ None) → find p (with_ref r rs) ≡ cond (p r) (Some r) (find p rs)
  find_more r [] h = refl
  find_more r (q ∷ rs) h =
      elim (nat_lt r.number q.number) as (λ b. find p (cond b (r ∷ q ∷ rs) (q ∷ with_ref r rs)) ≡ cond (p r) (Some r) (find p (q ∷ rs))) [
        | true ↦ refl
        | false ↦
            (elim (p q) as (λ b. p q ≡ b → cond b (Some q) (find p (with_ref r rs)) ≡ cond (p r) (Some r) (cond b (Some q) (find p rs))) [
              | true ↦ λ is.
                  (elim (p r) as (λ b. p r ≡ b → Some q ≡ cond b (Some r) (Some q)) [
                    | true ↦ λ t. absurd (none_some q (sym (h t) ∙ ap (λ b. cond b (Some q) (find p rs)) is))
                    | false ↦ λ _. refl
                  ]) refl
              | false ↦ λ no. find_more r rs (λ t. sym (ap (λ b. cond b (Some q) (find p rs)) no) ∙ h t)
            ]) refl
      ]

  -- where each triple is changed and the test answers as before, what is found is the changed one
  pub find_turned : (f : Ref → Ref) → ((r : Ref) → p (f r) ≡ p r) → (rs : List Ref) → find p (map f rs) ≡ option_map f (find p rs)
  find_turned f same [] = refl
  find_turned f same (q ∷ rs) =
      (λ i. cond (same q i) (Some (f q)) (find_turned f same rs i))
      ∙ elim (p q) as (λ b. cond b (Some (f q)) (option_map f (find p rs)) ≡ option_map f (cond b (Some q) (find p rs))) [ true ↦ refl | false ↦ refl ]

  -- what is found and kept is found among those that are kept
  pub find_kept : (k : Ref → Bool) (rs : List Ref) (r : Ref) → find p rs ≡ Some r → k r ≡ true → find p (filter k rs) ≡ Some r
  find_kept k [] r h t = absurd (none_some r h)
  find_kept k (q ∷ rs) r h t =
      (elim (p q) as (λ b. p q ≡ b → cond b (Some q) (find p rs) ≡ Some r → find p (cond (k q) (q ∷ filter k rs) (filter k rs)) ≡ Some r) [
        | true ↦ λ is e.
            ap (λ b. find p (cond b (q ∷ filter k rs) (filter k rs))) (ap k (some_same q r e) ∙ t)
            ∙ ap (λ b. cond b (Some q) (find p (filter k rs))) is ∙ e
        | false ↦ λ no e.
            elim (k q) as (λ b. find p (cond b (q ∷ filter k rs) (filter k rs)) ≡ Some r) [
              | true ↦ ap (λ b. cond b (Some q) (find p (filter k rs))) no ∙ find_kept k rs r e t
              | false ↦ find_kept k rs r e t
            ]
      ]) refl h

  -- where none that passes the test is kept, none is found
  pub find_gone : (k : Ref → Bool) (rs : List Ref) → ((r : Ref) → IsOneOf r rs → p r ≡ true → k r ≡ false) → find p (filter k rs) ≡ None
  find_gone k [] h = refl
  find_gone k (q ∷ rs) h =
      let rest = find_gone k rs (λ r one. h r (inr one)) in
      (elim (k q) as (λ b. k q ≡ b → find p (cond b (q ∷ filter k rs) (filter k rs)) ≡ None) [
        | true ↦ λ t.
            (elim (p q) as (λ b. p q ≡ b → cond b (Some q) (find p (filter k rs)) ≡ None) [
              | true ↦ λ is. absurd (true≢false (sym t ∙ h q (inl refl) is))
              | false ↦ λ _. rest
            ]) refl
        | false ↦ λ _. rest
      ]) refl

-- ---- elements

-- a triple of the longer list is the new one or was there
pub one_more : (x r : Ref) (rs : List Ref) → IsOneOf x (with_ref r rs) → (x ≡ r) ⊎ IsOneOf x rs
one_more x r [] h = h
one_more x r (q ∷ rs) h =
    (elim (nat_lt r.number q.number) as (λ b. IsOneOf x (cond b (r ∷ q ∷ rs) (q ∷ with_ref r rs)) → (x ≡ r) ⊎ IsOneOf x (q ∷ rs)) [
      | true ↦ λ one. one
      | false ↦ λ one. elim one [ inl e ↦ inr (inl e) | inr more ↦ elim (one_more x r rs more) [ inl e ↦ inl e | inr old ↦ inr (inr old) ] ]
    ]) h

-- a triple of the changed list comes from one of the list
pub one_turned : (f : Ref → Ref) (x : Ref) (rs : List Ref) → IsOneOf x (map f rs) → (y : Ref) × IsOneOf y rs × (x ≡ f y)
one_turned f x [] h = elim h [ ]
one_turned f x (q ∷ rs) h = elim h [ inl e ↦ (q, inl refl, e) | inr more ↦ (let y = one_turned f x rs more in (y.0, inr y.1, y.2)) ]

-- a triple that is kept was there
pub one_kept : (k : Ref → Bool) (x : Ref) (rs : List Ref) → IsOneOf x (filter k rs) → IsOneOf x rs × (k x ≡ true)
one_kept k x [] h = elim h [ ]
one_kept k x (q ∷ rs) h =
    (elim (k q) as (λ b. k q ≡ b → IsOneOf x (cond b (q ∷ filter k rs) (filter k rs)) → IsOneOf x (q ∷ rs) × (k x ≡ true)) [
      | true ↦ λ t one. elim one [ inl e ↦ (inl e, ap k e ∙ t) | inr more ↦ (let y = one_kept k x rs more in (inr y.0, y.1)) ]
      | false ↦ λ _ more. let y = one_kept k x rs more in (inr y.0, y.1)
    ]) refl h
