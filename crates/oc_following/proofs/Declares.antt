-- A schema with a class that is declared, a new one or one that is there, may follow.
use Rattle.std.proofs.Common.{◌≡◌, refl, sym, ap, ◌∙◌, subst, ℕ, ◌+◌, ◌-◌, ◌≤◌, ◌<◌, inl, inr, true, false, not, ◌==◌, List, [], length, map, slice_set, Option, Some, None, is_some, arith}
use Rattle.std.specs.Prelude.{Ok}
use Rattle.std.specs.List.{list_all, list_any}
use Rattle.std.proofs.lemmas.Bool.{and_parts, not-true}
use Rattle.oc_model.specs.declared.answer.Word.TheVariants as word
use Rattle.oc_model.specs.declared.command.Decl.{Decl}
use Rattle.oc_model.specs.declared.schema.FieldDef.{FieldDef}
use Rattle.oc_model.specs.declared.schema.ClassDef.{ClassDef}
use Rattle.oc_model.specs.Lists.{IsOneOf}
use Rattle.oc_model.specs.Maps.{Text, is_in, are_distinct}
use Rattle.oc_model.specs.Refusals.{◌>>◌, unless}
use Rattle.oc_model.specs.Schemas.{Schema, class_at, class_named, parent_of, field_named}
use Rattle.oc_model.specs.SchemaRules.{is_name, all_fields, is_within_limits, keeps_rules}
use Rattle.oc_model.specs.SchemaSteps.{made_past, stated_fields, by_id, unstated_fields, declared_fields, names_of, with_new_class, with_declared, parent_number, within_limits, declared_new, declared_again, declared_under, declared}
use Rattle.oc_model.proofs.Elements.{in_left, in_right, to_map, from_map, from_filter, to_filter, to_flat_map}
use Rattle.oc_model.proofs.Inherited.{apart_same}
use Rattle.oc_model.proofs.Rules.{rules_kept}
use Rattle.oc_schema.specs.Drafts.{schema_of}
use Rattle.oc_refactor.specs.Around.{names_are_free}
use Rattle.oc_refactor.proofs.AddedClass.{are_free, grown_keeps}
use Rattle.oc_refactor.proofs.Apart.{among_is}
use Rattle.oc_refactor.proofs.Ascending.{by_id_has}
use Rattle.oc_refactor.proofs.ChangedClass.{redeclared, next_after}
use Rattle.oc_refactor.proofs.Declaring.{with_declared_is, rules_kept_by}
use Rattle.oc_refactor.proofs.DeclaredFields.{ids_of, id_drawn, stated_of_kind}
use Rattle.oc_refactor.proofs.KeepsRules.{fields_keep_rules}
use Rattle.oc_refactor.proofs.OneClass.{at_number, class_is_one}
use Rattle.oc_lists.specs.Following.{MayFollow}
use Rattle.oc_following.proofs.Unrefused.{bound, behind, there, passed, named_class}
use Rattle.oc_following.proofs.Changing.{few_ids, set_extends, pushed_extends}
use Rattle.oc_following.proofs.Extending.{IsGrown, may_follow, within}

-- ---- each field is still there, under its id and with its kind

module _ (own : List FieldDef) (next : ℕ) (ds : List Decl) (drawn : (f : FieldDef) → IsOneOf f own → f.id < next)
    (apart : (f g : FieldDef) → IsOneOf f own → IsOneOf g own → f.id ≡ g.id → f ≡ g) where
  abbrev stated : List FieldDef
  stated = stated_fields own next ds

  abbrev left : List FieldDef
  left = map made_past (unstated_fields own stated)

  -- a field of its id and its kind
  abbrev IsStill : FieldDef → Type 0
  IsStill f = (g : FieldDef) × IsOneOf g (declared_fields own next ds) × (g.id ≡ f.id) × (g.kind ≡ f.kind)

  -- a field whose id is stated
  still_stated : (f : FieldDef) → IsOneOf f own → IsOneOf f.id (ids_of stated) → IsStill f
  still_stated f i j =
      let r = from_map (λ (g : FieldDef). g.id) f.id stated j in
      elim (stated_of_kind own next r.0 ds r.1) as (λ _. IsStill f) [
        | inl k ↦
            let same : k.0 ≡ f = apart k.0 f k.1 i (sym k.2 ∙ sym r.2) in
            (r.0, in_left r.0 stated (by_id left) r.1, sym r.2, k.3 ∙ ap (λ (x : FieldDef). x.kind) same)
        | inr le ↦ let lt = drawn f i in let q = r.2 in absurd (omega (arith, le, lt, q))
      ]

  -- a field that becomes a past one
  still_past : (f : FieldDef) → IsOneOf f own → is_in (ids_of stated) f.id ≡ false → IsStill f
  still_past f i out =
      let u = to_filter (λ (g : FieldDef). not (is_in (ids_of stated) g.id)) f own i (ap not out) in
      let r = by_id_has left (made_past f) (to_map made_past f (unstated_fields own stated) u) in
      let w = from_map made_past r.0 (unstated_fields own stated) r.2 in
      let o = from_filter (λ (g : FieldDef). not (is_in (ids_of stated) g.id)) w.0 own w.1 in
      let same : w.0 ≡ f = apart w.0 f o.0 i (ap (λ (x : FieldDef). x.id) (sym w.2) ∙ r.3) in
      (r.0, in_right r.0 stated (by_id left) r.1, r.3, ap (λ (x : FieldDef). x.kind) (w.2 ∙ ap made_past same))

  -- each field that was there
  pub still_there : (f : FieldDef) → IsOneOf f own → IsStill f
  still_there f i =
      (elim (is_in (ids_of stated) f.id) as (λ b. is_in (ids_of stated) f.id ≡ b → IsStill f) [ true ↦ λ e. still_stated f i (among_is f.id (ids_of stated) e) | false ↦ λ e. still_past f i e ]) refl

-- ---- what was answered

-- the schema is within the limits
limits_passed : (u t : Schema) → within_limits u ≡ Ok t → (is_within_limits u ≡ true) × (u ≡ t)
limits_passed u t h = let r = behind (unless (is_within_limits u) word.Size) (Ok u) t h in (passed _ word.Size r.0 r.1, (let q = r.2 in cc))

module _ (s t : Schema) (name : Text) (p : ℕ) (ds : List Decl) (rules : keeps_rules s ≡ true) (proper : is_name name ≡ true) (all_proper : list_all (λ d. is_name d.name) ds ≡ true) where
  -- a class that is new
  new_follows : class_named s name ≡ None → p ≤ length s.classes → declared_new s name p ds ≡ Ok t → MayFollow s t
  new_follows fresh up h =
      let u = with_new_class s name p ds in
      let r = behind (unless (are_free s p ds) word.Exists) (within_limits u) t h in
      let l = limits_passed u t r.2 in
      let free = and_parts (are_distinct (names_of ds)) (not (list_any (λ n. is_some (field_named s p n)) (names_of ds))) (passed _ word.Exists r.0 r.1) in
      subst (MayFollow s) l.1
      (may_follow s u rules (pushed_extends s (record { name = name; parent = p; fields = declared_fields [] s.next_field ds }) (s.next_field + length ds))
      (grown_keeps s name p ds rules (few_ids s rules) proper all_proper fresh up free.0 (not-true _ free.1) l.0))

  -- a class that is there
  module _ (c : ℕ) (d : ClassDef) (here : class_at s c ≡ Some d) where
    own_in_all : (f : FieldDef) → IsOneOf f d.fields → IsOneOf f (all_fields s)
    own_in_all f i = to_flat_map (λ (k : ClassDef). k.fields) f d s.classes (class_is_one d (c - 1) s.classes (at_number s c d here)) i

    still_grown : IsGrown d (redeclared s d ds)
    still_grown = record {
      parent = refl;
      fields = still_there d.fields s.next_field ds (λ f i. id_drawn s.next_field f (fields_keep_rules s rules f (own_in_all f i)))
          (λ f g i j e. apart_same f g (all_fields s) (rules_kept s rules).ids (own_in_all f i) (own_in_all g j) e);
    }

    again_follows : declared_again s c p ds ≡ Ok t → MayFollow s t
    again_follows h =
        let u = schema_of (slice_set s.classes (c - 1) (redeclared s d ds)) (next_after s d ds) in
        let r = behind (unless (p == parent_of (class_at s c)) word.Parent >> unless (names_are_free s c ds) word.Exists) (within_limits (with_declared s c ds)) t h in
        let q = behind (unless (p == parent_of (class_at s c)) word.Parent) (unless (names_are_free s c ds) word.Exists) r.0 r.1 in
        let l = limits_passed (with_declared s c ds) t r.2 in
        subst (MayFollow s) (sym (with_declared_is s c d ds here) ∙ l.1)
        (may_follow s u rules (set_extends s c d (redeclared s d ds) (next_after s d ds) here still_grown)
        (rules_kept_by s ds rules all_proper c d here (passed _ word.Exists q.0 q.2) l.0))

-- the parent's number is that of a class that is there, or 0
parent_there : (s : Schema) (o : Option Text) (p : ℕ) → parent_number s o ≡ Ok p → p ≤ length s.classes
parent_there s None p h = let q : 0 ≡ p = cc in omega (arith, q)
parent_there s (Some name) p h = let d = named_class s name p (there (class_named s name) word.Class p h) in within s p d.0 d.1

module _ (s t : Schema) (name : Text) (ds : List Decl) (rules : keeps_rules s ≡ true) (proper : is_name name ≡ true) (all_proper : list_all (λ d. is_name d.name) ds ≡ true) where
  under_follows : (p : ℕ) → p ≤ length s.classes → (o : Option ℕ) → class_named s name ≡ o → declared_under o s name p ds ≡ Ok t → MayFollow s t
  under_follows p up None fresh h = new_follows s t name p ds rules proper all_proper fresh up h
  under_follows p up (Some c) named h = let d = named_class s name c named in again_follows s t name p ds rules proper all_proper c d.0 d.1 h

  -- a new class, or one that is there
  pub declared_follows : (parent : Option Text) → declared s name parent ds ≡ Ok t → MayFollow s t
  unfolding declared
  declared_follows parent h =
      let p = bound (parent_number s parent) (λ p. declared_under (class_named s name) s name p ds) t h in
      under_follows p.0 (parent_there s parent p.0 p.1) (class_named s name) refl p.2
