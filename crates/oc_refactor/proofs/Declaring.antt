-- What a declaration answers.
use Rattle.std.proofs.Common.{◌≡◌, refl, sym, ap, ◌∙◌, ℕ, zero, suc, ◌+◌, ◌-◌, ◌≤◌, ◌<◌, true, false, not, ◌&&◌, nat_le, List, length, filter, slice_set, Option, Some, None, arith}
use Rattle.std.specs.Prelude.{Ok, Err}
use Rattle.std.specs.List.{list_all, list_any}
use Rattle.std.proofs.lemmas.Bool.{and_parts, and_from, not-true, and_right, ne_eqb, eq-eqb}
use Rattle.std.proofs.lemmas.Bool.Decides.{nat_tests}
use Rattle.oc_model.specs.declared.answer.Word.TheVariants as word
use Rattle.oc_model.specs.declared.command.Decl.{Decl}
use Rattle.oc_model.specs.declared.schema.ClassDef.{ClassDef}
use Rattle.oc_model.specs.Maps.{Text, are_distinct}
use Rattle.oc_model.specs.Schemas.{Schema, class_at, class_named, parent_of}
use Rattle.oc_model.specs.SchemaRules.{is_name, is_within_limits, keeps_rules}
use Rattle.oc_model.specs.SchemaSteps.{is_taken_around, names_of, stored_fields, declared_fields, is_new, with_class_at, with_declared, within_limits, parent_number, declared_new, declared_again, declared}
use Rattle.oc_schema.specs.Drafts.{schema_of}
use Rattle.oc_refactor.specs.Around.{all_fit_below, names_are_free}
use Rattle.oc_refactor.proofs.ChangedClass.{redeclared, next_after, limits_asked, redeclared_keeps}
use Rattle.oc_refactor.proofs.OneClass.{changed}

-- ---- a class that is there

pub with_declared_is : (s : Schema) (c : ℕ) (d : ClassDef) (ds : List Decl) → class_at s c ≡ Some d → with_declared s c ds ≡ schema_of (slice_set s.classes (c - 1) (redeclared s d ds)) (next_after s d ds)
with_declared_is s c d ds h =
    (λ i. record {
      classes = with_class_at s c (λ (b : ClassDef). record b { fields = declared_fields (stored_fields (h i)) s.next_field ds });
      next_field = s.next_field + length (filter (is_new (stored_fields (h i))) ds);
    })
    ∙ ap (λ cs. schema_of cs (next_after s d ds)) (changed s c (λ b. record b { fields = declared_fields d.fields s.next_field ds }) d h)

module _ (s : Schema) (ds : List Decl) (rules : keeps_rules s ≡ true) (proper : list_all (λ d. is_name d.name) ds ≡ true) where
  limits : (c : ℕ) (d : ClassDef) → class_at s c ≡ Some d → names_are_free s c ds ≡ true
      → is_within_limits (with_declared s c ds) ≡ (all_fit_below s c (length ds) && nat_le (length (declared_fields d.fields s.next_field ds)) 1000 && nat_le (next_after s d ds) 4294967295)
  limits zero d h free = absurd (cc)
  limits (suc k) d h free =
      let f = and_parts (are_distinct (names_of ds)) (not (list_any (is_taken_around s (suc k)) (names_of ds))) free in
      let e : suc k - 1 ≡ k = omega arith in
      ap is_within_limits (with_declared_is s (suc k) d ds h ∙ ap (λ j. schema_of (slice_set s.classes j (redeclared s d ds)) (next_after s d ds)) e) ∙ limits_asked s k d ds rules h proper f.0 (not-true _ f.1)

  pub rules_kept_by : (c : ℕ) (d : ClassDef) → class_at s c ≡ Some d → names_are_free s c ds ≡ true → is_within_limits (with_declared s c ds) ≡ true
      → keeps_rules (schema_of (slice_set s.classes (c - 1) (redeclared s d ds)) (next_after s d ds)) ≡ true
  rules_kept_by zero d h free within = absurd (cc)
  rules_kept_by (suc k) d h free within =
      let f = and_parts (are_distinct (names_of ds)) (not (list_any (is_taken_around s (suc k)) (names_of ds))) free in
      let e : suc k - 1 ≡ k = omega arith in
      let same = ap (λ j. schema_of (slice_set s.classes j (redeclared s d ds)) (next_after s d ds)) e in
      ap keeps_rules same ∙ redeclared_keeps s k d ds rules h proper f.0 (not-true _ f.1) (sym (ap is_within_limits (with_declared_is s (suc k) d ds h ∙ same)) ∙ within)

  module _ (c : ℕ) (d : ClassDef) (h : class_at s c ≡ Some d) (free : names_are_free s c ds ≡ true) where
    pub too_wide : all_fit_below s c (length ds) ≡ false → within_limits (with_declared s c ds) ≡ Err word.Size
    too_wide wide = rw (limits c d h free ∙ ap (λ b. b && nat_le (length (declared_fields d.fields s.next_field ds)) 1000 && nat_le (next_after s d ds) 4294967295) wide) refl

    pub too_many_ids : nat_le (next_after s d ds) 4294967295 ≡ false → within_limits (with_declared s c ds) ≡ Err word.Size
    too_many_ids many = rw (limits c d h free ∙ and_right (all_fit_below s c (length ds) && nat_le (length (declared_fields d.fields s.next_field ds)) 1000) (nat_le (next_after s d ds) 4294967295) many) refl

    pub too_long : 1000 < length (declared_fields d.fields s.next_field ds) → within_limits (with_declared s c ds) ≡ Err word.Size
    too_long more =
        let long : nat_le (length (declared_fields d.fields s.next_field ds)) 1000 ≡ false = grind (arith, nat_tests, more) in
        rw (limits c d h free ∙ ap (λ b. b && nat_le (next_after s d ds) 4294967295) (and_right (all_fit_below s c (length ds)) (nat_le (length (declared_fields d.fields s.next_field ds)) 1000) long)) refl

    within : all_fit_below s c (length ds) ≡ true → length (declared_fields d.fields s.next_field ds) ≤ 1000 → nat_le (next_after s d ds) 4294967295 ≡ true → is_within_limits (with_declared s c ds) ≡ true
    within wide long ids =
        let few : nat_le (length (declared_fields d.fields s.next_field ds)) 1000 ≡ true = grind (arith, nat_tests, long) in
        limits c d h free ∙ and_from _ _ (and_from _ _ wide few) ids

    pub again_keeps : all_fit_below s c (length ds) ≡ true → length (declared_fields d.fields s.next_field ds) ≤ 1000 → nat_le (next_after s d ds) 4294967295 ≡ true
        → keeps_rules (schema_of (slice_set s.classes (c - 1) (redeclared s d ds)) (next_after s d ds)) ≡ true
    again_keeps wide long ids = rules_kept_by c d h free (within wide long ids)

    pub again_told : all_fit_below s c (length ds) ≡ true → length (declared_fields d.fields s.next_field ds) ≤ 1000 → nat_le (next_after s d ds) 4294967295 ≡ true
        → within_limits (with_declared s c ds) ≡ Ok (schema_of (slice_set s.classes (c - 1) (redeclared s d ds)) (next_after s d ds))
    again_told wide long ids = rw (within wide long ids) (ap Ok (with_declared_is s c d ds h))

pub few_ids : (m n : ℕ) → nat_le (m + n) 4294967295 ≡ true → m + n ≤ 4294967295
few_ids m n h = grind (arith, nat_tests, h)

pub other_parent : (s : Schema) (c p : ℕ) (ds : List Decl) → (p ≡ parent_of (class_at s c) → ⊥) → declared_again s c p ds ≡ Err word.Parent
other_parent s c p ds other = rw (ne_eqb p (parent_of (class_at s c)) other) refl

pub taken_again : (s : Schema) (c p : ℕ) (ds : List Decl) → p ≡ parent_of (class_at s c) → names_are_free s c ds ≡ false → declared_again s c p ds ≡ Err word.Exists
taken_again s c p ds same taken = rw (eq-eqb p (parent_of (class_at s c)) same, taken) refl

pub free_again : (s : Schema) (c p : ℕ) (ds : List Decl) → p ≡ parent_of (class_at s c) → names_are_free s c ds ≡ true → declared_again s c p ds ≡ within_limits (with_declared s c ds)
free_again s c p ds same free = rw (eq-eqb p (parent_of (class_at s c)) same, free) refl

-- ---- any class

pub declared_as_new : (s : Schema) (name : Text) (parent : Option Text) (p : ℕ) (ds : List Decl) → parent_number s parent ≡ Ok p → class_named s name ≡ None
    → declared s name parent ds ≡ declared_new s name p ds
unfolding declared
declared_as_new s name parent p ds h k = rw (h, k) refl

pub declared_as_again : (s : Schema) (name : Text) (parent : Option Text) (p c : ℕ) (ds : List Decl) → parent_number s parent ≡ Ok p → class_named s name ≡ Some c
    → declared s name parent ds ≡ declared_again s c p ds
unfolding declared
declared_as_again s name parent p c ds h k = rw (h, k) refl

pub without_parent : (s : Schema) (name : Text) (parent : Option Text) (ds : List Decl) → parent_number s parent ≡ Err word.Class → declared s name parent ds ≡ Err word.Class
unfolding declared
without_parent s name parent ds h = rw h refl
