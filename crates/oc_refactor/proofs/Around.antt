-- The classes above a class and below it.
use Rattle.std.proofs.Common.{◌≡◌, refl, sym, ap, ◌∙◌, ℕ, zero, suc, ◌+◌, ◌<◌, Bool, true, false, ◌&&◌, ◌||◌, List, [], ◌∷◌, ◌++◌, length, map, filter, find, drop, slice_get, Some, is_some, cond, append_assoc, arith}
use denote.Ref.{Bor}
use Rattle.std.specs.List.{list_any, enumerate_from}
use Rattle.oc_model.specs.declared.schema.ClassDef.{ClassDef}
use Rattle.oc_model.specs.Maps.{Text}
use Rattle.oc_model.specs.Schemas.{Schema, class_at, current}
use Rattle.oc_model.specs.SchemaSteps.{is_called, is_taken_around}
use Rattle.oc_refactor.specs.Around.{is_related, classes_around, kept_where}

-- ---- the loop over the classes

there_in : (cs : List ClassDef) (i : ℕ) → i < length cs → is_some (slice_get cs i) ≡ true
there_in [] i h = absurd (omega arith)
there_in (c ∷ cs) zero h = refl
there_in (c ∷ cs) (suc i) h = there_in cs i (omega arith)

pub class_in_place : (s : Schema) (i n : ℕ) → i < length s.classes → n ≡ i + 1 → is_some (class_at s n) ≡ true
class_in_place s i zero h e = absurd (omega arith)
class_in_place s i (suc n) h e = let q : n ≡ i = omega arith in ap (λ j. is_some (slice_get s.classes j)) q ∙ there_in s.classes i h

module _ (p : ℕ → Bool) where
  rest : ℕ → List ClassDef → List ClassDef
  rest n cs = map (λ (e : ℕ × ClassDef). e.1) (filter (λ (e : ℕ × ClassDef). p e.0) (enumerate_from n cs))

  one_more : (n i : ℕ) (cs : List ClassDef) → i < length cs → rest n (drop i cs) ≡ kept_where (p n) (slice_get cs i) ++ rest (n + 1) (drop (i + 1) cs)
  unfolding rest
  one_more n i [] h = absurd (omega arith)
  one_more n zero (c ∷ cs) h = elim (p n) as (λ b. map (λ (e : ℕ × ClassDef). e.1) (cond b ((n, c) ∷ filter (λ (e : ℕ × ClassDef). p e.0) (enumerate_from (n + 1) cs)) (filter (λ (e : ℕ × ClassDef). p e.0) (enumerate_from (n + 1) cs))) ≡ kept_where b (Some c) ++ rest (n + 1) cs) [ true ↦ refl | false ↦ refl ]
  one_more n (suc i) (c ∷ cs) h = let e : suc i + 1 ≡ suc (i + 1) = omega arith in one_more n i cs (omega arith) ∙ ap (λ j. kept_where (p n) (slice_get cs i) ++ rest (n + 1) (drop j (c ∷ cs))) (sym e)

pub around_turn : (s : Schema) (c i : ℕ) (had now : List ClassDef) → i < length s.classes → now ≡ had ++ kept_where (is_related s c (i + 1)) (class_at s (i + 1))
    → now ++ map (λ e. e.1) (filter (λ e. is_related s c e.0) (enumerate_from (i + 1 + 1) (drop (i + 1) s.classes)))
    ≡ had ++ map (λ e. e.1) (filter (λ e. is_related s c e.0) (enumerate_from (i + 1) (drop i s.classes)))
unfolding rest
around_turn s c i had now h e =
    let q : i + 1 ≡ suc i = omega arith in
    let later = map (λ (e : ℕ × ClassDef). e.1) (filter (λ (e : ℕ × ClassDef). is_related s c e.0) (enumerate_from (i + 1 + 1) (drop (i + 1) s.classes))) in
    ap (λ cs. cs ++ later) e
    ∙ append_assoc had (kept_where (is_related s c (i + 1)) (class_at s (i + 1))) later
    ∙ ap (λ o. had ++ (kept_where (is_related s c (i + 1)) o ++ later)) (ap (class_at s) q)
    ∙ ap (λ cs. had ++ cs) (sym (one_more (λ n. is_related s c n) (i + 1) i s.classes h))

-- ---- a name that is taken

any_found : {X : Type 0} (p : X → Bool) (xs : List X) → list_any p xs ≡ is_some (find p xs)
any_found p [] = refl
any_found p (x ∷ xs) = elim (p x) as (λ b. (b || list_any p xs) ≡ is_some (cond b (Some x) (find p xs))) [ true ↦ refl | false ↦ any_found p xs ]

taken_from : (p : ℕ → Bool) (q r : ClassDef → Bool) → ((c : ClassDef) → q c ≡ r c) → (n : ℕ) (cs : List ClassDef)
    → list_any (λ (e : ℕ × ClassDef). p e.0 && q e.1) (enumerate_from n cs) ≡ list_any r (rest p n cs)
unfolding rest
taken_from p q r h n [] = refl
taken_from p q r h n (c ∷ cs) =
    let later = filter (λ (e : ℕ × ClassDef). p e.0) (enumerate_from (n + 1) cs) in
    (elim (p n) as (λ b. ((b && q c) || list_any (λ (e : ℕ × ClassDef). p e.0 && q e.1) (enumerate_from (n + 1) cs)) ≡ list_any r (map (λ (e : ℕ × ClassDef). e.1) (cond b ((n, c) ∷ later) later))) [
      | true ↦ λ i. h c i || taken_from p q r h (n + 1) cs i
      | false ↦ taken_from p q r h (n + 1) cs
    ])

taken_around : (s : Schema) (c : ℕ) (name : Text) → is_taken_around s c name ≡ list_any (λ d. is_some (find (is_called name) (current d.fields))) (classes_around s c)
unfolding rest
taken_around s c name = taken_from (λ n. is_related s c n) (λ d. list_any (is_called name) (current d.fields)) (λ d. is_some (find (is_called name) (current d.fields))) (λ d. any_found (is_called name) (current d.fields)) 1 s.classes

any_now : (p : ClassDef → Bool) (cs : List (Bor ClassDef)) → list_any (λ c. p c.now) cs ≡ list_any p (map (λ c. c.now) cs)
any_now p [] = refl
any_now p (c ∷ cs) = ap (λ b. p c.now || b) (any_now p cs)

pub around_named : (s : Schema) (c : ℕ) (name : Text) (cs : List (Bor ClassDef)) → map (λ d. d.now) cs ≡ classes_around s c
    → list_any (λ d. is_some (find (is_called name) (current d.now.fields))) cs ≡ is_taken_around s c name
around_named s c name cs h =
    any_now (λ d. is_some (find (is_called name) (current d.fields))) cs ∙ ap (list_any (λ d. is_some (find (is_called name) (current d.fields)))) h ∙ sym (taken_around s c name)

pub around_any : (s : Schema) (c : ℕ) (ns : List Text) (cs : List (Bor ClassDef)) → map (λ d. d.now) cs ≡ classes_around s c
    → list_any (λ n. list_any (λ d. is_some (find (is_called n) (current d.now.fields))) cs) ns ≡ list_any (is_taken_around s c) ns
around_any s c ns cs h = ap (λ (p : Text → Bool). list_any p ns) (λ j n. around_named s c n cs h j)
