-- A field with an index or without one.
use Rattle.std.proofs.Common.{◌≡◌, refl, sym, ap, ◌∙◌, subst, ℕ, zero, suc, ◌-◌, ◌≤◌, ◌<◌, Bool, true, false, not, ◌&&◌, ◌||◌, ◌==◌, nat_lt, nat_le, List, [], ◌∷◌, ◌++◌, map, find, slice_set, Option, Some, None, is_some, cond, arith, true≢false}
use Rattle.std.specs.Prelude.{Ok}
use Rattle.std.specs.Option.{option_or}
use Rattle.std.proofs.lemmas.Bool.{and_parts, and_from, eqb-true}
use Rattle.oc_model.specs.declared.schema.FieldDef.{FieldDef}
use Rattle.oc_model.specs.declared.schema.ClassDef.{ClassDef}
use Rattle.oc_model.specs.Kinds.{is_array}
use Rattle.oc_model.specs.Lists.{IsOneOf}
use Rattle.oc_model.specs.Maps.{Text, are_distinct}
use Rattle.oc_model.specs.Schemas.{Schema, class_at, class_named, current, own_fields, parent_of, fields_within, fields_of, field_named}
use Rattle.oc_model.specs.SchemaRules.{is_name, all_fields, has_earlier_parents, keeps_rules}
use Rattle.oc_model.specs.SchemaSteps.{is_called, own_field, stored_fields, with_field, index_set}
use Rattle.oc_model.proofs.Elements.{from_filter, to_map, to_flat_map, found_in}
use Rattle.oc_model.proofs.Inherited.{apart_same}
use Rattle.oc_model.proofs.NewClass.{no_fields}
use Rattle.oc_model.proofs.Rules.{rules_kept}
use Rattle.oc_schema.specs.ClassRules.{field_keeps}
use Rattle.oc_schema.specs.Drafts.{schema_of}
use Rattle.oc_schema.proofs.Ancestry.{parent_smaller, named_step}
use Rattle.oc_refactor.specs.Fields.{indexed_at}
use Rattle.oc_refactor.proofs.FieldsMapped.{mapped, mapped_keeps}
use Rattle.oc_refactor.proofs.OneClass.{at_number, class_is_one}
use Rattle.oc_refactor.proofs.OneField.{at_id, kept_at, field_changed}

-- ---- the class that declares a field

current_stored : (o : Option ClassDef) → current (stored_fields o) ≡ own_fields o
current_stored None = refl
current_stored (Some c) = refl

pub owner_none : (s : Schema) (c : ℕ) (name : Text) → class_at s c ≡ None → field_named s c name ≡ None
unfolding field_named
owner_none s zero name h = refl
owner_none s (suc i) name h =
    ap (find (is_called name)) ((λ j. fields_within i s (parent_of (h j)) ++ own_fields (h j)) ∙ ap (λ fs. fs ++ []) (no_fields i s))

pub owner_step : (s : Schema) (c : ℕ) (d : ClassDef) (name : Text) → has_earlier_parents s ≡ true → class_at s c ≡ Some d
    → field_named s c name ≡ option_or (field_named s d.parent name) (find (is_called name) (current d.fields))
owner_step s zero d name h k = absurd (cc)
owner_step s (suc i) d name h k =
    named_step s (suc i) name h (omega arith) ∙ (λ j. option_or (field_named s (parent_of (k j)) name) (find (is_called name) (current (stored_fields (k j)))))

-- a parent's number is smaller
pub owner_requires : (s : Schema) (c : ℕ) (d : ClassDef) → has_earlier_parents s ≡ true → class_at s c ≡ Some d → d.parent < c
owner_requires s zero d h k = absurd (cc)
owner_requires s (suc i) d h k = let p = subst (λ o. parent_of o < suc i) k (parent_smaller s (suc i) h (omega arith)) in p

some_first : {X : Type 0} (a b : Option X) → is_some a ≡ true → option_or a b ≡ a
some_first None b h = absurd (true≢false (sym h))
some_first (Some x) b h = refl

none_first : {X : Type 0} (a b : Option X) → is_some a ≡ false → option_or a b ≡ b
none_first None b h = refl
none_first (Some x) b h = absurd (true≢false h)

-- a field that an ancestor has is the one that is found
pub owner_above : (s : Schema) (c : ℕ) (d : ClassDef) (name : Text) → has_earlier_parents s ≡ true → class_at s c ≡ Some d → is_some (field_named s d.parent name) ≡ true
    → field_named s c name ≡ field_named s d.parent name
owner_above s c d name h k e = owner_step s c d name h k ∙ some_first _ _ e

pub owner_here : (s : Schema) (c : ℕ) (d : ClassDef) (name : Text) → has_earlier_parents s ≡ true → class_at s c ≡ Some d → is_some (field_named s d.parent name) ≡ false
    → field_named s c name ≡ find (is_called name) (current d.fields)
owner_here s c d name h k e = owner_step s c d name h k ∙ none_first _ _ e

pub owned : (s : Schema) (c : ℕ) (d : ClassDef) (name : Text) → class_at s c ≡ Some d → own_field s c name ≡ find (is_called name) (current d.fields)
owned s c d name k = ap (λ o. find (is_called name) (own_fields o)) k

-- ---- the index

-- the field that is found is one of the schema's, and a current one
pub found_in_all : (s : Schema) (c : ℕ) (d : ClassDef) (name : Text) (f : FieldDef) → class_at s c ≡ Some d → find (is_called name) (current d.fields) ≡ Some f
    → IsOneOf f d.fields × (f.current ≡ true) × IsOneOf f (all_fields s)
found_in_all s c d name f h k =
    let r = found_in (is_called name) f (current d.fields) k in
    let o = from_filter (λ (g : FieldDef). g.current) f d.fields r.0 in
    (o.0, o.1, to_flat_map (λ (k : ClassDef). k.fields) f d s.classes (class_is_one d (c - 1) s.classes (at_number s c d h)) o.0)

no_arrays : (on c i a n x : Bool) → (on && a) ≡ false → c ≡ true → (n && x && (c || not i) && not (i && a)) ≡ true → (n && x && (c || not on) && not (on && a)) ≡ true
no_arrays on c i a n x h k l =
    let r = and_parts _ _ l in
    let q = and_parts _ _ r.0 in
    and_from _ _ (and_from _ _ q.0 (ap (λ b. b || not on) k)) (ap not h)

-- a current field of the schema, whichever class declares it
module _ (s : Schema) (f : FieldDef) (on : Bool) (rules : keeps_rules s ≡ true) (few : s.next_field ≤ 4294967295)
    (one : IsOneOf f (all_fields s)) (now : f.current ≡ true) (kind : (on && is_array f.kind) ≡ false) where
  abbrev change : FieldDef → FieldDef
  change g = record g { indexed = on }

  good : (g : FieldDef) → IsOneOf g (all_fields s) → field_keeps s.next_field g ≡ true → field_keeps s.next_field (at_id f.id change g) ≡ true
  good g i l =
      (elim (g.id == f.id) as (λ b. (g.id == f.id) ≡ b → field_keeps s.next_field (cond b (change g) g) ≡ true) [
        | true ↦ λ e.
            let q : f ≡ g = apart_same f g (all_fields s) (rules_kept s rules).ids one i (sym (eqb-true g.id f.id e)) in
            no_arrays on g.current g.indexed (is_array g.kind) (is_name g.name) (nat_le 1 g.id && nat_lt g.id s.next_field) (ap (λ (x : FieldDef). on && is_array x.kind) (sym q) ∙ kind) (ap (λ (x : FieldDef). x.current) (sym q) ∙ now) l
        | false ↦ λ e. l
      ]) refl

  names : (fs : List FieldDef) → map (λ (g : FieldDef). g.name) (map (at_id f.id change) fs) ≡ map (λ (g : FieldDef). g.name) fs
  names [] = refl
  names (g ∷ fs) = λ i. kept_at (λ (x : FieldDef). x.name) f.id change (λ x. refl) g i ∷ names fs i

  pub indexed_keeps : keeps_rules (with_field s f.id change) ≡ true
  indexed_keeps =
      mapped_keeps (at_id f.id change) (kept_at (λ (x : FieldDef). x.id) f.id change (λ x. refl)) (kept_at (λ (x : FieldDef). x.current) f.id change (λ x. refl)) s few rules good
      (λ n l. ap are_distinct (names (fields_of s n)) ∙ l)

module _ (s : Schema) (c : ℕ) (d : ClassDef) (name : Text) (f : FieldDef) (on : Bool)
    (rules : keeps_rules s ≡ true) (few : s.next_field ≤ 4294967295)
    (h : class_at s c ≡ Some d) (k : find (is_called name) (current d.fields) ≡ Some f) (kind : (on && is_array f.kind) ≡ false) where
  keeps : keeps_rules (with_field s f.id (λ g. record g { indexed = on })) ≡ true
  keeps = let r = found_in_all s c d name f h k in indexed_keeps s f on rules few r.2 r.1 kind

  changes : with_field s f.id (λ g. record g { indexed = on }) ≡ schema_of (slice_set s.classes (c - 1) (mapped (indexed_at f.id on) d)) s.next_field
  changes = field_changed s c f.id (λ g. record g { indexed = on }) d rules h (to_map (λ (g : FieldDef). g.id) f d.fields (found_in_all s c d name f h k).0)

  pub index_keeps : keeps_rules (schema_of (slice_set s.classes (c - 1) (mapped (indexed_at f.id on) d)) s.next_field) ≡ true
  index_keeps = ap keeps_rules (sym changes) ∙ keeps

  pub index_answered : (class : Text) (n : ℕ) → class_named s class ≡ Some n → own_field s c name ≡ field_named s n name
      → index_set s class name on ≡ Ok (schema_of (slice_set s.classes (c - 1) (mapped (indexed_at f.id on) d)) s.next_field)
  unfolding index_set
  index_answered class n named alike =
      let found : field_named s n name ≡ Some f = sym alike ∙ ap (λ o. find (is_called name) (own_fields o)) h ∙ k in
      rw (named, found, kind) (ap Ok changes)
