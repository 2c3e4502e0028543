-- A field with another name.
use Rattle.std.proofs.Common.{◌≡◌, refl, sym, ap, ◌∙◌, subst, ℕ, ◌-◌, ◌≤◌, true, false, not, ◌&&◌, ◌||◌, ◌==◌, nat_lt, nat_le, map, find, slice_set, Some, is_some, cond}
use Rattle.std.specs.Prelude.{Ok}
use Rattle.std.proofs.lemmas.Bool.{and_parts, and_from, or_parts}
use Rattle.oc_model.specs.declared.schema.FieldDef.{FieldDef}
use Rattle.oc_model.specs.declared.schema.ClassDef.{ClassDef}
use Rattle.oc_model.specs.Kinds.{is_array}
use Rattle.oc_model.specs.Lists.{IsOneOf}
use Rattle.oc_model.specs.Maps.{Text, are_distinct}
use Rattle.oc_model.specs.Schemas.{Schema, class_at, class_named, current, fields_of, is_sub}
use Rattle.oc_model.specs.SchemaRules.{is_name, keeps_rules}
use Rattle.oc_model.specs.SchemaSteps.{is_called, own_field, is_taken_around, with_field, field_renamed}
use Rattle.oc_model.proofs.Elements.{from_filter, to_map}
use Rattle.oc_model.proofs.Inherited.{apart_same, current_in_all}
use Rattle.oc_model.proofs.Rules.{rules_kept}
use Rattle.oc_schema.specs.ClassRules.{field_keeps}
use Rattle.oc_schema.specs.Drafts.{schema_of}
use Rattle.oc_refactor.specs.Fields.{named_at}
use Rattle.oc_refactor.proofs.FieldsMapped.{mapped, mapped_keeps}
use Rattle.oc_refactor.proofs.Indexing.{found_in_all, owned}
use Rattle.oc_refactor.proofs.OneField.{at_id, kept_at, field_changed}
use Rattle.oc_refactor.proofs.Taken.{declares, one_class, first_class, free_around, names_distinct}

module _ (s : Schema) (c : ℕ) (d : ClassDef) (name to : Text) (f : FieldDef)
    (rules : keeps_rules s ≡ true) (few : s.next_field ≤ 4294967295)
    (h : class_at s c ≡ Some d) (k : find (is_called name) (current d.fields) ≡ Some f)
    (proper : is_name to ≡ true) (free : (is_some (own_field s c to) || is_taken_around s c to) ≡ false) where
  abbrev change : FieldDef → FieldDef
  change g = record g { name = to }

  good : (g : FieldDef) → field_keeps s.next_field g ≡ true → field_keeps s.next_field (at_id f.id change g) ≡ true
  good g l =
      (elim (g.id == f.id) as (λ b. field_keeps s.next_field (cond b (change g) g) ≡ true) [
        | true ↦
            let r = and_parts (is_name g.name && (nat_le 1 g.id && nat_lt g.id s.next_field) && (g.current || not g.indexed)) (not (g.indexed && is_array g.kind)) l in
            let q = and_parts (is_name g.name && (nat_le 1 g.id && nat_lt g.id s.next_field)) (g.current || not g.indexed) r.0 in
            let p = and_parts (is_name g.name) (nat_le 1 g.id && nat_lt g.id s.next_field) q.0 in
            and_from _ _ (and_from _ _ (and_from _ _ proper p.1) q.1) r.1
        | false ↦ l
      ])

  distinct : (n : ℕ) → are_distinct (map (λ (g : FieldDef). g.name) (fields_of s n)) ≡ true → are_distinct (map (λ (g : FieldDef). g.name) (map (at_id f.id change) (fields_of s n))) ≡ true
  distinct n l =
      let r = rules_kept s rules in
      let here = found_in_all s c d name f h k in
      let parts = or_parts (is_some (own_field s c to)) (is_taken_around s c to) free in
      let own : is_some (find (is_called to) (current d.fields)) ≡ false = ap is_some (sym (owned s c d to h)) ∙ parts.0 in
      names_distinct f.id to (fields_of s n) l
      (λ x y i j e t.
      let w = declares s n x i in
      let ids = subst (λ m. IsOneOf m (map (λ (g : FieldDef). g.id) w.class.fields)) e (to_map (λ (g : FieldDef). g.id) x w.class.fields (from_filter (λ (g : FieldDef). g.current) x w.class.fields w.own).0) in
      let q = one_class f.id s w.at c w.class d r.ids w.there h ids (to_map (λ (g : FieldDef). g.id) f d.fields here.0) in
      free_around s c n d to y r.parents (first_class s c d h) h own parts.1 (ap (is_sub s n) (sym q) ∙ w.above) j t)
      (λ x y i j e t. apart_same x y _ r.ids (current_in_all x s n i) (current_in_all y s n j) (e ∙ sym t))

  changes : with_field s f.id change ≡ schema_of (slice_set s.classes (c - 1) (mapped (named_at f.id to) d)) s.next_field
  changes = field_changed s c f.id change d rules h (to_map (λ (g : FieldDef). g.id) f d.fields (found_in_all s c d name f h k).0)

  pub field_name_keeps : keeps_rules (schema_of (slice_set s.classes (c - 1) (mapped (named_at f.id to) d)) s.next_field) ≡ true
  field_name_keeps =
      ap keeps_rules (sym changes)
      ∙ mapped_keeps (at_id f.id change) (kept_at (λ (x : FieldDef). x.id) f.id change (λ x. refl)) (kept_at (λ (x : FieldDef). x.current) f.id change (λ x. refl)) s few rules (λ g i. good g) distinct

  pub field_name_answered : (class : Text) → class_named s class ≡ Some c
      → field_renamed s class name to ≡ Ok (schema_of (slice_set s.classes (c - 1) (mapped (named_at f.id to) d)) s.next_field)
  unfolding field_renamed
  field_name_answered class named =
      let found : own_field s c name ≡ Some f = owned s c d name h ∙ k in
      rw (named, found, free) (ap Ok changes)
