-- The classes that are a class or below it, one after the other.
use Rattle.std.proofs.Common.{◌≡◌, refl, sym, ap, ◌∙◌, ℕ, zero, suc, ◌+◌, ◌<◌, ◌==◌, Bool, true, false, cond, ◌&&◌, ◌||◌, List, [], ◌∷◌, ◌++◌, append-nil, length, nat_lt, slice_get, Option, Some, None, is_some, arith, add-one}
use Rattle.std.proofs.lemmas.Bool.{eqb-true, lt-ltb, ne_eqb}
use Rattle.std.proofs.lemmas.Bool.Decides.{nat_tests}
use Rattle.oc_model.specs.declared.schema.ClassDef.{ClassDef}
use Rattle.oc_model.specs.Maps.{is_in}
use Rattle.oc_model.specs.Schemas.{Schema, class_at, parent_of, is_sub}
use Rattle.oc_model.specs.SchemaRules.{keeps_rules}
use Rattle.oc_model.proofs.Rules.{rules_kept}
use Rattle.oc_schema.proofs.Ancestry.{sub_none, sub_step}
use Rattle.oc_schema.proofs.Parting.{class_within}
use Rattle.oc_lists.proofs.Reindexed.{in_more}

-- ---- numbers that pass a test, collected one by one

or_false : (b : Bool) → (b || false) ≡ b
or_false true = refl
or_false false = refl

and_false : (b : Bool) → (b && false) ≡ false
and_false true = refl
and_false false = refl

and_true : (b : Bool) → (b && true) ≡ b
and_true true = refl
and_true false = refl

in_with : (ns : List ℕ) (n c : ℕ) (b : Bool) → is_in (ns ++ cond b (n ∷ []) []) c ≡ (is_in ns c || (b && c == n))
in_with ns n c true = in_more ns n c
in_with ns n c false = ap (λ l. is_in l c) (append-nil ns) ∙ sym (or_false (is_in ns c))

below_itself : (n : ℕ) → nat_lt n n ≡ false
below_itself n = grind (arith, nat_tests)

below_next : (n : ℕ) → nat_lt n (n + 1) ≡ true
below_next n = grind (arith, nat_tests)

below_same : (c n : ℕ) → (c == n) ≡ false → nat_lt c n ≡ nat_lt c (n + 1)
below_same c n e = grind (arith, nat_tests, e)

module _ (p : ℕ → Bool) where
  abbrev AreSoFar : List ℕ → ℕ → Type 0
  AreSoFar ns n = (c : ℕ) → is_in ns c ≡ (nat_lt c n && p c)

  one_more : (n c : ℕ) → ((nat_lt c n && p c) || (p n && c == n)) ≡ (nat_lt c (n + 1) && p c)
  one_more n c =
      (elim (c == n) as (λ t. (c == n) ≡ t → ((nat_lt c n && p c) || (p n && t)) ≡ (nat_lt c (n + 1) && p c)) [
        | true ↦ λ e.
            let same : c ≡ n = eqb-true c n e in
            ap (λ k. (nat_lt k n && p k) || (p n && true)) same
            ∙ ap (λ b. (b && p n) || (p n && true)) (below_itself n)
            ∙ and_true (p n)
            ∙ sym (ap (λ b. b && p n) (below_next n))
            ∙ ap (λ k. nat_lt k (n + 1) && p k) (sym same)
        | false ↦ λ e.
            ap (λ b. (nat_lt c n && p c) || b) (and_false (p n)) ∙ or_false (nat_lt c n && p c) ∙ ap (λ b. b && p c) (below_same c n e)
      ]) refl

  -- with the next number, if it passes
  pub so_far_more : (ns ms : List ℕ) (n : ℕ) (b : Bool) → b ≡ p n → ms ≡ ns ++ cond b (n ∷ []) [] → AreSoFar ns n → AreSoFar ms (n + 1)
  so_far_more ns ms n b is grown so_far c =
      ap (λ l. is_in l c) grown ∙ in_with ns n c b ∙ ap (λ x. x || (b && c == n)) (so_far c) ∙ ap (λ x. (nat_lt c n && p c) || (x && c == n)) is ∙ one_more n c

  -- none is of number 0
  pub none_so_far : p 0 ≡ false → AreSoFar [] 1
  none_so_far off zero = sym off
  none_so_far off (suc c) = sym (ap (λ b. b && p (suc c)) (above c))
    where
      above : (n : ℕ) → nat_lt (suc n) 1 ≡ false
      above n = grind (arith, nat_tests)

-- ---- all classes

-- a class that isn't there is below none that is
none_below : (s : Schema) (c b : ℕ) → keeps_rules s ≡ true → is_some (class_at s b) ≡ true → class_at s c ≡ None → is_sub s c b ≡ false
none_below s zero b keeps there gone = sub_none s b
none_below s (suc c) b keeps there gone =
    let some = (class_within s b there).0 in
    sub_step s (suc c) b (rules_kept s keeps).parents (omega arith) some
    ∙ ap (λ t. t || is_sub s (parent_of (class_at s (suc c))) b) (ne_eqb (suc c) b (λ same. is_gone (class_at s b) there (ap (class_at s) (sym same) ∙ gone)))
    ∙ ap (λ d. is_sub s (parent_of d) b) gone
    ∙ sub_none s b
  where
    is_gone : (o : Option ClassDef) → is_some o ≡ true → o ≡ None → ⊥
    is_gone None h e = cc
    is_gone (Some d) h e = cc

-- those of the schema are all
pub all_so_far : (s : Schema) (b : ℕ) (ns : List ℕ) → keeps_rules s ≡ true → is_some (class_at s b) ≡ true → AreSoFar (λ c. is_sub s c b) ns (length s.classes + 1) → (c : ℕ) → is_in ns c ≡ is_sub s c b
all_so_far s b ns keeps there so_far c =
    so_far c
    ∙ (elim (class_at s c) as (λ o. class_at s c ≡ o → (nat_lt c (length s.classes + 1) && is_sub s c b) ≡ is_sub s c b) [
      | None ↦ λ e.
          let off = none_below s c b keeps there e in
          ap (λ x. nat_lt c (length s.classes + 1) && x) off ∙ and_false (nat_lt c (length s.classes + 1)) ∙ sym off
      | Some d ↦ λ e. let le = (class_within s c (ap is_some e)).1 in ap (λ x. x && is_sub s c b) (lt-ltb c (length s.classes + 1) (omega (arith, le)))
    ]) refl

pub is_there : (s : Schema) (i : ℕ) → i < length s.classes → is_some (class_at s (i + 1)) ≡ true
is_there s i lt = rw add-one (in_list s.classes i lt)
  where
    in_list : (cs : List ClassDef) (k : ℕ) → k < length cs → is_some (slice_get cs k) ≡ true
    in_list [] k lt = absurd (omega arith)
    in_list (c ∷ cs) zero lt = refl
    in_list (c ∷ cs) (suc k) lt = in_list cs k (omega arith)

-- where nothing is found, nothing is there
pub nothing_there : {X : Type 0} (found : Option X) (f : Option X → Option ClassDef) (p : Option ClassDef) → f None ≡ None → f found ≡ p → is_some found ≡ false → p ≡ None
nothing_there None f p none is h = sym is ∙ none
nothing_there (Some d) f p none is h = absurd (cc)
