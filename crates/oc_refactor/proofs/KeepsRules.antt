-- The rules of a schema from their parts.
use Rattle.std.proofs.Common.{◌≡◌, refl, ℕ, inl, inr, Bool, true, not, ◌&&◌, ◌||◌, nat_lt, nat_le, List, [], ◌∷◌}
use Rattle.std.specs.List.{list_all}
use Rattle.std.proofs.lemmas.Bool.{and_parts, and_from}
use Rattle.oc_model.specs.declared.schema.FieldDef.{FieldDef}
use Rattle.oc_model.specs.declared.schema.ClassDef.{ClassDef}
use Rattle.oc_model.specs.Kinds.{is_array}
use Rattle.oc_model.specs.Lists.{IsOneOf}
use Rattle.oc_model.specs.Schemas.{Schema}
use Rattle.oc_model.specs.SchemaRules.{is_name, all_fields, has_distinct_classes, has_earlier_parents, has_distinct_names, has_distinct_ids, has_ordered_fields, is_within_limits, keeps_rules}
use Rattle.oc_model.proofs.Elements.{all_pass}
use Rattle.oc_model.proofs.Rules.{rules_kept}
use Rattle.oc_schema.specs.ClassRules.{field_keeps}

-- each field keeps the rules of a field
abbrev pub AllKeep : ℕ → List FieldDef → Type 0
AllKeep next fs = (f : FieldDef) → IsOneOf f fs → field_keeps next f ≡ true

pub all_from : {X : Type 0} (p : X → Bool) (xs : List X) → ((x : X) → IsOneOf x xs → p x ≡ true) → list_all p xs ≡ true
all_from p [] h = refl
all_from p (x ∷ xs) h = and_from _ _ (h x (inl refl)) (all_from p xs (λ y i. h y (inr i)))

pub fields_keep_rules : (s : Schema) → keeps_rules s ≡ true → AllKeep s.next_field (all_fields s)
fields_keep_rules s h f i =
    let r = rules_kept s h in
    let named = all_pass (λ (g : FieldDef). is_name g.name) f (all_fields s) (and_parts (list_all (λ (c : ClassDef). is_name c.name) s.classes) (list_all (λ (g : FieldDef). is_name g.name) (all_fields s)) r.names).1 i in
    let drawn = all_pass (λ (g : FieldDef). nat_le 1 g.id && nat_lt g.id s.next_field) f (all_fields s) (and_parts (nat_le 1 s.next_field) _ r.drawn).1 i in
    let past = all_pass (λ (g : FieldDef). g.current || not g.indexed) f (all_fields s) r.past i in
    let arrays = all_pass (λ (g : FieldDef). not (g.indexed && is_array g.kind)) f (all_fields s) r.arrays i in
    and_from _ _ (and_from _ _ (and_from _ _ named drawn) past) arrays

pub record Parts (t : Schema) : Type 0 where
  pub class_names : list_all (λ c. is_name c.name) t.classes ≡ true
  pub classes : has_distinct_classes t ≡ true
  pub parents : has_earlier_parents t ≡ true
  pub field_names : has_distinct_names t ≡ true
  pub ids : has_distinct_ids t ≡ true
  pub some : nat_le 1 t.next_field ≡ true
  pub fields : AllKeep t.next_field (all_fields t)
  pub order : has_ordered_fields t ≡ true
  pub within : is_within_limits t ≡ true

pub parts_keep : (t : Schema) → Parts t → keeps_rules t ≡ true
unfolding keeps_rules
parts_keep t p =
    let fs = all_fields t in
    let part : (f : FieldDef) → IsOneOf f fs → ((is_name f.name && (nat_le 1 f.id && nat_lt f.id t.next_field)) ≡ true) × ((f.current || not f.indexed) ≡ true) × (not (f.indexed && is_array f.kind) ≡ true) =
    λ f i.
    let r = and_parts (is_name f.name && (nat_le 1 f.id && nat_lt f.id t.next_field) && (f.current || not f.indexed)) (not (f.indexed && is_array f.kind)) (p.fields f i) in
    let q = and_parts (is_name f.name && (nat_le 1 f.id && nat_lt f.id t.next_field)) (f.current || not f.indexed) r.0 in
    (q.0, q.1, r.1) in
    let named = all_from (λ (f : FieldDef). is_name f.name) fs (λ f i. (and_parts (is_name f.name) _ (part f i).0).0) in
    let drawn = all_from (λ (f : FieldDef). nat_le 1 f.id && nat_lt f.id t.next_field) fs (λ f i. (and_parts (is_name f.name) _ (part f i).0).1) in
    let past = all_from (λ (f : FieldDef). f.current || not f.indexed) fs (λ f i. (part f i).1) in
    let arrays = all_from (λ (f : FieldDef). not (f.indexed && is_array f.kind)) fs (λ f i. (part f i).2) in
    and_from _ _
    (and_from _ _
    (and_from _ _
    (and_from _ _ (and_from _ _ (and_from _ _ (and_from _ _ (and_from _ _ (and_from _ _ (and_from _ _ p.class_names named) p.classes) p.parents) p.field_names) p.ids) (and_from _ _ p.some drawn)) p.order) past) arrays) p.within
