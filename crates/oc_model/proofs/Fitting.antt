-- In a store that keeps its rules, what a record has in a current field is of the field's kind.
use Rattle.std.proofs.Common.{◌≡◌, refl, sym, ap, ◌∙◌, subst, ℕ, true, false, cond, ◌==◌, [], ◌∷◌, Some, None, option_map, unwrap_or, find, inl, inr, nat_cmp}
use Rattle.std.specs.Ordering.{eq_by_cmp}
use Rattle.std.proofs.lemmas.Map.Lookups.{exact_unsigned}
use Rattle.std.proofs.lemmas.Bool.{and_parts, eqb-true}
use Rattle.std.specs.FinMap.{find as at_key}
use Rattle.oc_model.specs.declared.value.Base.TheVariants as base
use Rattle.oc_model.specs.declared.value.Kind.{Kind}
use Rattle.oc_model.specs.declared.value.Kind.TheVariants as kind
use Rattle.oc_model.specs.declared.value.Atom.{Atom}
use Rattle.oc_model.specs.declared.value.Value.{Value}
use Rattle.oc_model.specs.declared.value.Value.TheVariants as value
use Rattle.oc_model.specs.declared.value.Entry.{Entry}
use Rattle.oc_model.specs.declared.value.Rec.{Rec}
use Rattle.oc_model.specs.declared.schema.FieldDef.{FieldDef}
use Rattle.oc_model.specs.Maps.{Map, at}
use Rattle.oc_model.specs.Lists.{IsOneOf}
use Rattle.oc_model.specs.Values.{fits, default}
use Rattle.oc_model.specs.Kinds.{is_array}
use Rattle.oc_model.specs.Schemas.{Schema, fields_of}
use Rattle.oc_model.specs.SchemaRules.{has_distinct_ids, all_fields}
use Rattle.oc_model.specs.Stores.{value_in}
use Rattle.oc_model.specs.Spelling.{entry_fits}
use Rattle.oc_model.specs.StoreRules.{known_fields, is_under, is_known, Suits}
use Rattle.oc_model.proofs.Elements.{all_pass, some_passes, found_in}
use Rattle.oc_model.proofs.Reaching.{is_equal}
use Rattle.oc_model.proofs.SchemaLaws.{equal_kinds}
use Rattle.oc_model.proofs.Inherited.{current_in_all, known_in_all, apart_same}

-- ---- values of kinds

pub default_fits : (k : Kind) → fits k (default k) ≡ true
default_fits (kind.One base.Bool) = refl
default_fits (kind.One base.I8) = refl
default_fits (kind.One base.I16) = refl
default_fits (kind.One base.I32) = refl
default_fits (kind.One base.I64) = refl
default_fits (kind.One base.U64) = refl
default_fits (kind.One base.I128) = refl
default_fits (kind.One base.Text) = refl
default_fits (kind.One base.Ref) = refl
default_fits (kind.Many b) = refl

pub single_is : (k : Kind) (v : Value) → is_array k ≡ false → fits k v ≡ true → (a : Atom) × (v ≡ value.One a)
single_is (kind.One b) (value.One a) n h = (a, refl)
single_is (kind.One b) (value.Many items) n h = absurd (cc)
single_is (kind.Many b) v n h = absurd (cc)

-- ---- records

pub record_is_one : (n : ℕ) (r : Rec) (m : Map Rec) → at m n ≡ Some r → IsOneOf (n, r) m
record_is_one n r [] h = absurd (cc)
record_is_one n r (e ∷ m) h =
    (elim (eq_by_cmp nat_cmp n e.0) as (λ b. eq_by_cmp nat_cmp n e.0 ≡ b → cond b (Some e.1) (at_key nat_cmp n m) ≡ Some r → IsOneOf (n, r) (e ∷ m)) [
      | true ↦ λ c h. inl (let a : e.1 ≡ r = cc in λ i. (exact_unsigned n e.0 (is_equal _ c) i, sym a i))
      | false ↦ λ c h. inr (record_is_one n r m h)
    ]) refl h

-- an entry under the field's id has the field's kind
kind_under : (s : Schema) (c : ℕ) (f : FieldDef) (e : Entry) → has_distinct_ids s ≡ true → IsOneOf f (fields_of s c) → e.id ≡ f.id → is_known s c e ≡ true → e.kind ≡ f.kind
kind_under s c f e d i same k =
    let g = some_passes (λ (h : FieldDef). is_under h e) (known_fields s c) k in
    let u = and_parts _ _ g.2 in
    let one = apart_same g.0 f (all_fields s) d (known_in_all g.0 s c g.1) (current_in_all f s c i) (eqb-true (g.0).id e.id u.0 ∙ same) in
    sym (equal_kinds (g.0).kind e.kind u.1) ∙ ap (λ (h : FieldDef). h.kind) one

pub value_fits : (s : Schema) (r : Rec) (f : FieldDef) → has_distinct_ids s ≡ true → Suits s r → IsOneOf f (fields_of s r.class) → fits f.kind (value_in r.entries f.id f.kind) ≡ true
value_fits s r f d suits i =
    (elim (find (λ e. e.id == f.id) r.entries) as (λ o. find (λ e. e.id == f.id) r.entries ≡ o → fits f.kind (unwrap_or (option_map (λ e. e.value) o) (default f.kind)) ≡ true) [
      | None ↦ λ _. default_fits f.kind
      | Some e ↦ λ q.
          let there = found_in (λ (h : Entry). h.id == f.id) e r.entries q in
          let kinds = kind_under s r.class f e d i (eqb-true e.id f.id there.1) (all_pass (is_known s r.class) e r.entries suits.known there.0) in
          subst (λ k. fits k e.value ≡ true) kinds (all_pass entry_fits e r.entries suits.fits there.0)
    ]) refl
