-- The field of one id changed, in the class that declares it.
use Rattle.std.proofs.Common.{◌≡◌, refl, sym, ap, ◌∙◌, subst, ℕ, zero, suc, ◌-◌, inl, inr, true, false, ◌==◌, List, [], ◌∷◌, ◌++◌, map, flat_map, slice_get, slice_set, Some, cond}
use Rattle.std.specs.Prelude.{if◌then◌else◌}
use Rattle.std.proofs.lemmas.Bool.{ne_eqb}
use Rattle.std.proofs.lemmas.List.{map-append}
use Rattle.oc_model.specs.declared.schema.FieldDef.{FieldDef}
use Rattle.oc_model.specs.declared.schema.ClassDef.{ClassDef}
use Rattle.oc_model.specs.Lists.{IsOneOf}
use Rattle.oc_model.specs.Schemas.{Schema, class_at}
use Rattle.oc_model.specs.SchemaRules.{are_apart, keeps_rules}
use Rattle.oc_model.specs.SchemaSteps.{with_field}
use Rattle.oc_model.proofs.Elements.{in_left, in_right}
use Rattle.oc_model.proofs.Rules.{rules_kept}
use Rattle.oc_refactor.proofs.Apart.{apart_parts}
use Rattle.oc_refactor.proofs.FieldsMapped.{mapped}
use Rattle.oc_refactor.proofs.OneClass.{at_number}

-- the field of this id changed
abbrev pub at_id : ℕ → (FieldDef → FieldDef) → FieldDef → FieldDef
at_id id change f = if f.id == id then change f else f

abbrev pub ids_in : List ClassDef → List ℕ
ids_in cs = map (λ (f : FieldDef). f.id) (flat_map (λ (c : ClassDef). c.fields) cs)

-- what stays in each field that is changed stays in each field
pub kept_at : {Y : Type 0} (y : FieldDef → Y) (id : ℕ) (change : FieldDef → FieldDef) → ((f : FieldDef) → y (change f) ≡ y f) → (f : FieldDef) → y (at_id id change f) ≡ y f
kept_at y id change h f = elim (f.id == id) as (λ b. y (cond b (change f) f) ≡ y f) [ true ↦ h f | false ↦ refl ]

module _ (id : ℕ) (change : FieldDef → FieldDef) where
  -- fields of other ids stay
  pub others_kept : (fs : List FieldDef) → (IsOneOf id (map (λ (f : FieldDef). f.id) fs) → ⊥) → map (at_id id change) fs ≡ fs
  others_kept [] h = refl
  others_kept (f ∷ fs) h = λ i. cond (ne_eqb f.id id (λ q. h (inl (sym q))) i) (change f) f ∷ others_kept fs (λ k. h (inr k)) i

  classes_kept : (cs : List ClassDef) → (IsOneOf id (ids_in cs) → ⊥) → map (mapped (at_id id change)) cs ≡ cs
  classes_kept [] h = refl
  classes_kept (c ∷ cs) h =
      let parts : ids_in (c ∷ cs) ≡ map (λ (f : FieldDef). f.id) c.fields ++ ids_in cs = map-append (λ (f : FieldDef). f.id) c.fields _ in
      let none : IsOneOf id (map (λ (f : FieldDef). f.id) c.fields ++ ids_in cs) → ⊥ = subst (λ ns. IsOneOf id ns → ⊥) parts h in
      λ i. record c { fields = others_kept c.fields (λ k. none (in_left id _ _ k)) i } ∷ classes_kept cs (λ k. none (in_right id _ _ k)) i

  pub among_ids : (cs : List ClassDef) (i : ℕ) (d : ClassDef) → slice_get cs i ≡ Some d → IsOneOf id (map (λ (f : FieldDef). f.id) d.fields) → IsOneOf id (ids_in cs)
  among_ids [] i d h k = absurd (cc)
  among_ids (c ∷ cs) zero d h k =
      let q : d ≡ c = cc in
      subst (IsOneOf id) (sym (map-append (λ (f : FieldDef). f.id) c.fields _)) (in_left id _ _ (subst (λ (b : ClassDef). IsOneOf id (map (λ (f : FieldDef). f.id) b.fields)) q k))
  among_ids (c ∷ cs) (suc i) d h k = subst (IsOneOf id) (sym (map-append (λ (f : FieldDef). f.id) c.fields _)) (in_right id (map (λ (f : FieldDef). f.id) c.fields) (ids_in cs) (among_ids cs i d h k))

  one_changed : (cs : List ClassDef) (i : ℕ) (d : ClassDef) → slice_get cs i ≡ Some d → IsOneOf id (map (λ (f : FieldDef). f.id) d.fields) → are_apart (ids_in cs) ≡ true
      → map (mapped (at_id id change)) cs ≡ slice_set cs i (mapped (at_id id change) d)
  one_changed [] i d h k a = absurd (cc)
  one_changed (c ∷ cs) zero d h k a =
      let q : d ≡ c = cc in
      let r = apart_parts (map (λ (f : FieldDef). f.id) c.fields) (ids_in cs) (sym (ap are_apart (map-append (λ (f : FieldDef). f.id) c.fields _)) ∙ a) in
      let here = subst (λ (b : ClassDef). IsOneOf id (map (λ (f : FieldDef). f.id) b.fields)) q k in
      λ i. mapped (at_id id change) (sym q i) ∷ classes_kept cs (λ j. r.2 id here j) i
  one_changed (c ∷ cs) (suc i) d h k a =
      let r = apart_parts (map (λ (f : FieldDef). f.id) c.fields) (ids_in cs) (sym (ap are_apart (map-append (λ (f : FieldDef). f.id) c.fields _)) ∙ a) in
      λ j. record c { fields = others_kept c.fields (λ m. r.2 id m (among_ids cs i d h k)) j } ∷ one_changed cs i d h k r.1 j

-- A field is changed in its class alone.
pub field_changed : (s : Schema) (c id : ℕ) (change : FieldDef → FieldDef) (d : ClassDef) → keeps_rules s ≡ true → class_at s c ≡ Some d → IsOneOf id (map (λ (f : FieldDef). f.id) d.fields)
    → with_field s id change ≡ record s { classes = slice_set s.classes (c - 1) (mapped (at_id id change) d) }
field_changed s c id change d rules h k = ap (λ cs. record s { classes = cs }) (one_changed id change s.classes (c - 1) d (at_number s c d h) k (rules_kept s rules).ids)
