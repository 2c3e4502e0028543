-- The indexes of fields that a schema has no index for are ended one after the other.
use Rattle.std.proofs.Common.{◌≡◌, ◌∙◌, ap, sym, refl, ℕ, ◌+◌, ◌<◌, Bool, true, false, true≢false, cond, not, ◌==◌, ◌&&◌, ◌||◌, List, [], ◌∷◌, ◌++◌, append_assoc, map, filter, drop, length, get_or, nat_eq}
use Rattle.std.specs.Prelude.{if◌then◌else◌}
use Rattle.std.proofs.lemmas.Bool.{eqb-true, eq-eqb}
use Rattle.std.proofs.lemmas.List.{drop_more}
use Rattle.oc_model.specs.declared.value.Base.{Base}
use Rattle.oc_model.specs.Maps.{is_in}
use Rattle.oc_model.specs.Schemas.{Schema}
use Rattle.oc_model.proofs.Elements.{or_right}
use Rattle.oc_chunks.specs.Ascending.{Each}
use Rattle.oc_chunks.proofs.Eaches.{each_more}
use Rattle.oc_chunks.proofs.Looking.{filter_both}
use Rattle.oc_index.specs.Fields.{FieldList}
use Rattle.oc_lists.specs.Following.{ended_unless, has_index, with_these}

-- after these ids
pub ended : Schema → List (ℕ × Base) → List (ℕ × FieldList) → List (ℕ × FieldList)
ended s [] fs = fs
ended s (e ∷ es) fs = ended s es (ended_unless (has_index s e.0) e.0 fs)

-- one id more
pub ended_turn : (s : Schema) (es : List (ℕ × Base)) (i : ℕ) (d : ℕ × Base) → i < length es → (fs : List (ℕ × FieldList)) → ended s (drop i es) fs ≡ ended s (drop (i + 1) es) (ended_unless (has_index s (get_or es i d).0) (get_or es i d).0 fs)
unfolding ended
ended_turn s es i d lt fs = ap (λ l. ended s l fs) (drop_more es i d lt)

pub ended_end : (s : Schema) (fs : List (ℕ × FieldList)) → ended s [] fs ≡ fs
unfolding ended
ended_end s fs = refl

-- one pair more is added, or not
pub added_turn : (h : ℕ → Bool) (es : List (ℕ × Base)) (i : ℕ) (d : ℕ × Base) → i < length es → (b : Bool) → b ≡ h (get_or es i d).0 → (old : List (ℕ × Base))
    → (old ++ (if b then [] else get_or es i d ∷ [])) ++ filter (λ e. not (h e.0)) (drop (i + 1) es) ≡ old ++ filter (λ e. not (h e.0)) (drop i es)
added_turn h es i d lt b is old =
    append_assoc old (if b then [] else get_or es i d ∷ []) (filter (λ e. not (h e.0)) (drop (i + 1) es))
    ∙ ap (λ l. old ++ l) (of_test b ∙ ap (λ t. cond (not t) (get_or es i d ∷ filter (λ e. not (h e.0)) (drop (i + 1) es)) (filter (λ e. not (h e.0)) (drop (i + 1) es))) is ∙ ap (filter (λ e. not (h e.0))) (sym (drop_more es i d lt)))
  where
    of_test : (t : Bool) → (if t then [] else get_or es i d ∷ []) ++ filter (λ e. not (h e.0)) (drop (i + 1) es) ≡ cond (not t) (get_or es i d ∷ filter (λ e. not (h e.0)) (drop (i + 1) es)) (filter (λ e. not (h e.0)) (drop (i + 1) es))
    of_test true = refl
    of_test false = refl

filter_alike : {X : Type 0} (p q : X → Bool) → ((x : X) → p x ≡ q x) → (xs : List X) → filter p xs ≡ filter q xs
filter_alike p q same [] = refl
filter_alike p q same (x ∷ xs) = ap (λ b. cond b (x ∷ filter p xs) (filter p xs)) (same x) ∙ ap (λ l. cond (q x) (x ∷ l) l) (filter_alike p q same xs)

module _ (s : Schema) where
  stays : List (ℕ × Base) → ℕ × FieldList → Bool
  stays es i = has_index s i.0 || not (is_in (map (λ e. e.0) es) i.0)

  -- what one id more leaves
  one : (h g m n : Bool) → (g ≡ true → h ≡ n) → cond n (h || not m) (not g && (h || not m)) ≡ (h || not (g || m))
  one true true m true e = refl
  one true true m false e = absurd (true≢false (e refl))
  one false true m true e = absurd (true≢false (sym (e refl)))
  one false true m false e = refl
  one true false m true e = refl
  one true false m false e = refl
  one false false m true e = refl
  one false false m false e = refl

  ended_one : (e : ℕ × Base) (es : List (ℕ × Base)) (fs : List (ℕ × FieldList)) → filter (stays es) (ended_unless (has_index s e.0) e.0 fs) ≡ filter (stays (e ∷ es)) fs
  unfolding stays
  ended_one e es fs = of_test (has_index s e.0) refl
    where
      tells : (b : Bool) → has_index s e.0 ≡ b → (i : ℕ × FieldList) → (i.0 == e.0) ≡ true → has_index s i.0 ≡ b
      tells b is i same = ap (has_index s) (eqb-true i.0 e.0 same) ∙ is

      of_test : (b : Bool) → has_index s e.0 ≡ b → filter (stays es) (cond b fs (filter (λ i. not (i.0 == e.0)) fs)) ≡ filter (stays (e ∷ es)) fs
      of_test true is = filter_alike (stays es) (stays (e ∷ es)) (λ i. one (has_index s i.0) (i.0 == e.0) (is_in (map (λ e. e.0) es) i.0) true (tells true is i)) fs
      of_test false is =
          filter_both (λ i. not (i.0 == e.0)) (stays es) fs
          ∙ filter_alike (λ i. not (i.0 == e.0) && stays es i) (stays (e ∷ es)) (λ i. one (has_index s i.0) (i.0 == e.0) (is_in (map (λ e. e.0) es) i.0) false (tells false is i)) fs

  ended_is : (es : List (ℕ × Base)) (fs : List (ℕ × FieldList)) → ended s es fs ≡ filter (stays es) fs
  unfolding ended stays
  ended_is [] fs = sym (all fs)
    where
      all : (fs : List (ℕ × FieldList)) → filter (stays []) fs ≡ fs
      all [] = refl
      all (f ∷ fs) = ap (λ b. cond b (f ∷ filter (stays []) fs) (filter (stays []) fs)) (or_right (has_index s f.0) true refl) ∙ ap (λ l. f ∷ l) (all fs)
  ended_is (e ∷ es) fs = ended_is es (ended_unless (has_index s e.0) e.0 fs) ∙ ended_one e es fs

  -- those that the schema has no index for are ended by the ids of all
  named : (es : List (ℕ × Base)) (fs : List (ℕ × FieldList)) → Each (λ f. is_in (map (λ (e : ℕ × Base). e.0) es) f.0 ≡ true) fs → filter (stays es) fs ≡ with_these s fs
  unfolding stays
  named es [] each = refl
  named es (f ∷ fs) each =
      ap (λ b. cond b (f ∷ filter (stays es) fs) (filter (stays es) fs)) (ap (λ m. has_index s f.0 || not m) each.0 ∙ last (has_index s f.0)) ∙ ap (λ l. cond (has_index s f.0) (f ∷ l) l) (named es fs each.1)
    where
      last : (b : Bool) → (b || false) ≡ b
      last true = refl
      last false = refl

  own_ids : (fs : List (ℕ × FieldList)) → Each (λ f. is_in (map (λ (e : ℕ × Base). e.0) (map (λ (g : ℕ × FieldList). (g.0, (g.1).base)) fs)) f.0 ≡ true) fs
  own_ids [] = tt
  own_ids (f ∷ fs) = (
    ap (λ b. b || is_in (map (λ (e : ℕ × Base). e.0) (map (λ (g : ℕ × FieldList). (g.0, (g.1).base)) fs)) f.0) (eq-eqb f.0 f.0 refl),
    each_more (λ g. is_in (map (λ (e : ℕ × Base). e.0) (map (λ (g : ℕ × FieldList). (g.0, (g.1).base)) fs)) g.0 ≡ true) (λ g. is_in (map (λ (e : ℕ × Base). e.0) (map (λ (g : ℕ × FieldList). (g.0, (g.1).base)) (f ∷ fs))) g.0 ≡ true) fs
        (λ g it. or_right (nat_eq g.0 f.0) _ it) (own_ids fs),
  )

  pub ended_all : (fs : List (ℕ × FieldList)) → ended s (map (λ (g : ℕ × FieldList). (g.0, (g.1).base)) fs) fs ≡ with_these s fs
  ended_all fs = ended_is (map (λ (g : ℕ × FieldList). (g.0, (g.1).base)) fs) fs ∙ named (map (λ (g : ℕ × FieldList). (g.0, (g.1).base)) fs) fs (own_ids fs)
