-- The values of indexed fields: of the field's kind, and such as an index can hold.
use Rattle.std.proofs.Common.{◌≡◌, ◌∙◌, ap, sym, refl, subst, inl, inr, ℕ, ◌<◌, ◌^◌, ◌==◌, Bool, true, false, ◌&&◌, not, None, Some, option_map, unwrap_or, find, arith, true≢false}
use Rattle.std.specs.Prelude.{IfSome, IsTrue, Option}
use Rattle.std.specs.List.{list_all}
use Rattle.std.specs.declared.cmp.Ordering.TheVariants.{Equal}
use Rattle.std.proofs.lemmas.Bool.{and_parts, and_from, eqb-true, lt-ltb}
use Rattle.oc_model.specs.declared.value.Atom.{Atom}
use Rattle.oc_model.specs.declared.value.Atom.TheVariants as atom
use Rattle.oc_model.specs.declared.value.Base.{Base}
use Rattle.oc_model.specs.declared.value.Base.TheVariants as base
use Rattle.oc_model.specs.declared.value.Kind.{Kind}
use Rattle.oc_model.specs.declared.value.Kind.TheVariants as kind
use Rattle.oc_model.specs.declared.value.Value.{Value}
use Rattle.oc_model.specs.declared.value.Value.TheVariants as value
use Rattle.oc_model.specs.declared.value.Entry.{Entry}
use Rattle.oc_model.specs.declared.value.Rec.{Rec}
use Rattle.oc_model.specs.declared.schema.FieldDef.{FieldDef}
use Rattle.oc_model.specs.Candidates.{single}
use Rattle.oc_model.specs.Kinds.{is_array}
use Rattle.oc_model.specs.Lengths.{indexed_fields}
use Rattle.oc_model.specs.Lists.{IsOneOf}
use Rattle.oc_model.specs.Orders.{compare, is_null}
use Rattle.oc_model.specs.Schemas.{Schema}
use Rattle.oc_model.specs.SchemaRules.{all_fields, keeps_rules}
use Rattle.oc_model.specs.Spelling.{entry_fits, is_small, is_small_atom}
use Rattle.oc_model.specs.StoreRules.{known_fields, is_under, is_known, Suits}
use Rattle.oc_model.specs.Stores.{base_of, value_in}
use Rattle.oc_model.specs.Values.{fits, fits_base, default}
use Rattle.oc_model.proofs.Elements.{all_pass, some_passes, found_in, from_filter}
use Rattle.oc_model.proofs.Fitting.{default_fits}
use Rattle.oc_model.proofs.Inherited.{known_in_all, apart_same}
use Rattle.oc_model.proofs.Orders.{alike}
use Rattle.oc_model.proofs.Rules.{rules_kept}
use Rattle.oc_model.proofs.SchemaLaws.{equal_kinds}
use Rattle.oc_model.proofs.Spellable.{suited_spellable}
use Rattle.oc_marshal.specs.Records.{has_texts, is_text, IsRecord}
use Rattle.oc_segments.specs.Items.{index_stands}
use Rattle.oc_lists.specs.Changing.{IsStorable}
use Rattle.oc_lists.specs.Lists.{key_in}

-- ---- values

-- what holds of the default and of the values of the entries under the field's id
from_entries : (P : Value → Type 0) (f : FieldDef) (r : Rec) → P (default f.kind) → ((e : Entry) → IsOneOf e r.entries → e.id ≡ f.id → P e.value) → P (value_in r.entries f.id f.kind)
from_entries P f r none each =
    (elim (find (λ (e : Entry). e.id == f.id) r.entries) as (λ o. find (λ (e : Entry). e.id == f.id) r.entries ≡ o → P (unwrap_or (option_map (λ (e : Entry). e.value) o) (default f.kind))) [
      | None ↦ λ _. none
      | Some e ↦ λ found. let there = found_in (λ (d : Entry). d.id == f.id) e r.entries found in each e there.0 (eqb-true e.id f.id there.1)
    ]) refl

-- a default is small, and has no text
default_is : (k : Kind) → (is_small (default k) ≡ true) × (has_texts (default k) ≡ true)
default_is (kind.One base.Bool) = (refl, refl)
default_is (kind.One base.I8) = (refl, refl)
default_is (kind.One base.I16) = (refl, refl)
default_is (kind.One base.I32) = (refl, refl)
default_is (kind.One base.I64) = (refl, refl)
default_is (kind.One base.U64) = (refl, refl)
default_is (kind.One base.I128) = (refl, refl)
default_is (kind.One base.Text) = (refl, refl)
default_is (kind.One base.Ref) = (refl, refl)
default_is (kind.Many b) = (refl, refl)

single_fits : (k : Kind) (v : Value) → is_array k ≡ false → fits k v ≡ true → fits_base (base_of k) (single v) ≡ true
single_fits (kind.One b) (value.One a) off it = it
single_fits (kind.One b) (value.Many items) off it = absurd (true≢false (sym it))
single_fits (kind.Many b) v off it = absurd (true≢false off)

single_small : (v : Value) → is_small v ≡ true → is_small_atom (single v) ≡ true
single_small (value.One a) it = it
single_small (value.Many items) it = refl

single_text : (v : Value) → has_texts v ≡ true → is_text (single v) ≡ true
single_text (value.One a) it = it
single_text (value.Many items) it = refl

-- null is told by the kind
one_null : (b : Base) (x y : Atom) → fits_base b x ≡ true → fits_base b y ≡ true → IsTrue (is_null x) → IsTrue (is_null y) → x ≡ y
one_null b (atom.Text None) (atom.Text None) p q m n = refl
one_null b (atom.Ref x) (atom.Ref y) p q m n = ap atom.Ref (zero_of x m ∙ sym (zero_of y n))
  where
    zero_of : (k : ℕ) → IsTrue (is_null (atom.Ref k)) → k ≡ 0
    zero_of k it = grind (arith, it)
one_null base.Text (atom.Text x) (atom.Ref y) p q m n = absurd (true≢false (sym q))
one_null base.Ref (atom.Text x) (atom.Ref y) p q m n = absurd (true≢false (sym p))
one_null b x y p q m n = absurd (grind (arith, p, q, m, n))

-- ---- records whose values an index can hold

-- The record suits the schema, its values are small, and its texts are UTF-8.
pub record HasKeys (s : Schema) (r : Rec) : Type 0 where
  pub suits : Suits s r
  pub small : IsTrue (list_all (λ e. is_small e.value) r.entries)
  pub texts : IsTrue (list_all (λ e. has_texts e.value) r.entries)

pub storable_keys : (s : Schema) → IsTrue (keeps_rules s) → (o : Option Rec) → IfSome o (IsStorable s) → IfSome o (HasKeys s)
storable_keys s keeps None may = tt
storable_keys s keeps (Some r) may = record { suits = may.suits; small = (suited_spellable s r keeps may.suits may.short may.references).small; texts = may.texts }

pub recorded_keys : (s : Schema) (r : Rec) → Suits s r → IsRecord r → HasKeys s r
recorded_keys s r suits is = record { suits = suits; small = (is.spellable).small; texts = is.texts }

-- ---- the value under an indexed field

module _ (s : Schema) (f : FieldDef) (keeps : IsTrue (keeps_rules s)) (one : IsOneOf f (indexed_fields s)) where
  in_all : IsOneOf f (all_fields s) × (f.indexed ≡ true)
  in_all = from_filter (λ (g : FieldDef). g.indexed) f (all_fields s) one

  no_array : is_array f.kind ≡ false
  no_array = off f.indexed (is_array f.kind) in_all.1 (all_pass (λ (g : FieldDef). not (g.indexed && is_array g.kind)) f (all_fields s) (rules_kept s keeps).arrays in_all.0)
    where
      off : (a b : Bool) → a ≡ true → not (a && b) ≡ true → b ≡ false
      off true false h e = refl
      off true true h e = absurd (true≢false (sym e))
      off false b h e = absurd (true≢false (sym h))

  -- an entry under the field's id has the field's kind
  kind_under : (c : ℕ) (e : Entry) → e.id ≡ f.id → is_known s c e ≡ true → e.kind ≡ f.kind
  kind_under c e same known =
      let g = some_passes (λ (h : FieldDef). is_under h e) (known_fields s c) known in
      let under = and_parts _ _ g.2 in
      sym (equal_kinds (g.0).kind e.kind under.1)
      ∙ ap (λ (h : FieldDef). h.kind) (apart_same g.0 f (all_fields s) (rules_kept s keeps).ids (known_in_all g.0 s c g.1) in_all.0 (eqb-true (g.0).id e.id under.0 ∙ same))

  pub key_fits : (r : Rec) → Suits s r → fits_base (base_of f.kind) (key_in f r) ≡ true
  key_fits r suits =
      single_fits f.kind (value_in r.entries f.id f.kind) no_array
      (from_entries (λ v. fits f.kind v ≡ true) f r (default_fits f.kind)
      (λ e here same. subst (λ k. fits k e.value ≡ true) (kind_under r.class e same (all_pass (is_known s r.class) e r.entries suits.known here)) (all_pass entry_fits e r.entries suits.fits here)))

  -- keys of one field that are equal in the order are the same
  pub keys_same : (q r : Rec) → Suits s q → Suits s r → compare (key_in f q) (key_in f r) ≡ Equal → key_in f q ≡ key_in f r
  keys_same q r old new equal = elim (alike (key_in f q) (key_in f r) equal) [
    | inl same ↦ same
    | inr nulls ↦ one_null (base_of f.kind) (key_in f q) (key_in f r) (key_fits q old) (key_fits r new) nulls.0 nulls.1
  ]

  -- the key of such a record can be written in a segment
  pub key_stands : (r : Rec) (n : ℕ) → HasKeys s r → n < 2 ^ 32 → index_stands (Some (base_of f.kind)) (record { key = key_in f r; number = n }) ≡ true
  key_stands r n may lt =
      let small : is_small (value_in r.entries f.id f.kind) ≡ true = from_entries (λ v. is_small v ≡ true) f r (default_is f.kind).0 (λ e here _. all_pass (λ (d : Entry). is_small d.value) e r.entries may.small here) in
      let text : has_texts (value_in r.entries f.id f.kind) ≡ true = from_entries (λ v. has_texts v ≡ true) f r (default_is f.kind).1 (λ e here _. all_pass (λ (d : Entry). has_texts d.value) e r.entries may.texts here) in
      let key : (fits_base (base_of f.kind) (key_in f r) && is_small_atom (key_in f r)) ≡ true = and_from _ _ (key_fits r may.suits) (single_small (value_in r.entries f.id f.kind) small) in
      and_from _ _ (and_from _ _ key (lt-ltb n (2 ^ 32) lt)) (single_text (value_in r.entries f.id f.kind) text)
