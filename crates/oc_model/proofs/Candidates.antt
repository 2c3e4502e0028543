-- What a query finds is among its candidates.
use Rattle.std.proofs.Common.{◌≡◌, refl, sym, ap, ◌∙◌, subst, ℕ, Bool, true, false, cond, not, ◌&&◌, ◌||◌, ◌==◌, nat_le, List, [], ◌∷◌, length, Option, Some, None, is_some, option_map, unwrap_or, map, filter, true≢false, inl, inr}
use Rattle.std.specs.Prelude.{filter_map, if◌then◌else◌}
use Rattle.std.specs.Option.{option_and_then}
use Rattle.std.specs.List.{list_any, list_all, cons_option}
use Rattle.std.proofs.lemmas.Bool.{and_parts, and_from, not-true}
use Rattle.std.proofs.lemmas.List.Folds.{list_all-append}
use Rattle.oc_model.specs.declared.value.Atom.{Atom}
use Rattle.oc_model.specs.declared.value.Atom.TheVariants as atom
use Rattle.oc_model.specs.declared.value.Value.TheVariants as value
use Rattle.oc_model.specs.declared.value.Rec.{Rec}
use Rattle.oc_model.specs.declared.schema.FieldDef.{FieldDef}
use Rattle.oc_model.specs.declared.query.Op.{Op}
use Rattle.oc_model.specs.declared.query.Op.TheVariants as op
use Rattle.oc_model.specs.declared.query.Expr.{Expr, Row_of-Expr, end_of-Expr, more_of-Expr, And', Test, Is}
use Rattle.oc_model.specs.Maps.{Text, at, keys, is_in}
use Rattle.oc_model.specs.Lists.{IsOneOf}
use Rattle.oc_model.specs.Orders.{is_null, IsAlike}
use Rattle.oc_model.specs.Kinds.{is_array}
use Rattle.oc_model.specs.Schemas.{Schema, fields_of, field_named, is_sub}
use Rattle.oc_model.specs.Stores.{Store, value_in}
use Rattle.oc_model.specs.Queries.{value_named, last_values, as_read, values, passes, ref_meets, is_of, meets, all_meet, found}
use Rattle.oc_model.specs.Candidates.{single, has_field, index_of, Lookup, conjuncts, all_conjuncts, is_looked_up, with_index, indexed_field, lookup, hits, shorter, shortest, looked_up, is_left, candidates}
use Rattle.oc_model.specs.StoreRules.{KeepsStore}
use Rattle.oc_model.proofs.Elements.{any_passes, is_among, from_filter, to_filter, to_map}
use Rattle.oc_model.proofs.Reaching.{is_equal}
use Rattle.oc_model.proofs.Orders.{alike}
use Rattle.oc_model.proofs.NewClass.{is_earlier}
use Rattle.oc_model.proofs.Rules.{rules_kept}
use Rattle.oc_model.proofs.SchemaLaws.{same_number}
use Rattle.oc_model.proofs.Inherited.{named_below, named_is_one}
use Rattle.oc_model.proofs.Fitting.{single_is, record_is_one, value_fits}

-- ---- a dangling reference, which reads as null, passes no test that an index answers

null_alike : (literal : Atom) → IsAlike (atom.Ref 0) literal → is_null literal ≡ true
null_alike literal (inl e) = ap is_null (sym e)
null_alike literal (inr n) = n.1

null_fails : (o : Op) (literal : Atom) → is_looked_up o literal ≡ true → passes o literal (atom.Ref 0) ≡ true → ⊥
null_fails op.Equal literal look h =
    let n = null_alike literal (alike (atom.Ref 0) literal (is_equal _ h)) in true≢false (sym look ∙ ap not n)
null_fails op.Less literal look h = cc
null_fails op.AtMost literal look h = cc
null_fails op.Greater literal look h = cc
null_fails op.AtLeast literal look h = cc
null_fails o literal look h = cc

test_back : (s : Store) (o : Op) (literal a : Atom) → is_looked_up o literal ≡ true → passes o literal (as_read s a) ≡ true → passes o literal a ≡ true
test_back s o literal (atom.Ref m) look h =
    (elim (is_some (at s.records m)) as (λ t. passes o literal (if t then atom.Ref m else atom.Ref 0) ≡ true → passes o literal (atom.Ref m) ≡ true) [
      | true ↦ λ h. h
      | false ↦ λ h. absurd (null_fails o literal look h)
    ]) h
test_back s o literal a look h = h

ref_back : (s : Store) (p : ℕ → Bool) (a : Atom) → ref_meets p (as_read s a) ≡ true → ref_meets p a ≡ true
ref_back s p (atom.Ref m) h =
    (elim (is_some (at s.records m)) as (λ t. ref_meets p (if t then atom.Ref m else atom.Ref 0) ≡ true → ref_meets p (atom.Ref m) ≡ true) [
      | true ↦ λ h. h
      | false ↦ λ h. absurd (true≢false (sym h))
    ]) h
ref_back s p a h = h

-- ---- an object that passes is among the hits

-- the object is there, and of the class or of one below it
object_of : (s : Store) (c n : ℕ) → is_of s c n ≡ true → (r : Rec) × (at s.records n ≡ Some r) × (is_sub s.schema r.class c ≡ true)
object_of s c n h =
    (elim (at s.records n) as (λ o. at s.records n ≡ o → unwrap_or (option_map (λ d. is_sub s.schema d c) (option_map (λ (r : Rec). r.class) o)) false ≡ true
    → (r : Rec) × (at s.records n ≡ Some r) × (is_sub s.schema r.class c ≡ true)) [
      | None ↦ λ e h. absurd (true≢false (sym h))
      | Some r ↦ λ e h. (r, e, h)
    ]) refl h

indexed_is : (s : Schema) (c : ℕ) (name : Text) (f : FieldDef) → indexed_field s c name ≡ Some f → (field_named s c name ≡ Some f) × (is_array f.kind ≡ false)
indexed_is s c name f h =
    (elim (field_named s c name) as (λ o. field_named s c name ≡ o → option_and_then with_index o ≡ Some f → (field_named s c name ≡ Some f) × (is_array f.kind ≡ false)) [
      | None ↦ λ e h. absurd (cc)
      | Some g ↦ λ e h.
          (elim (g.indexed && not (is_array g.kind)) as (λ t. (g.indexed && not (is_array g.kind)) ≡ t → (if t then Some g else None) ≡ Some f → (field_named s c name ≡ Some f) × (is_array f.kind ≡ false)) [
            | true ↦ λ t h. let q : g ≡ f = cc in (e ∙ ap Some q, sym (ap (λ (k : FieldDef). is_array k.kind) q) ∙ not-true _ (and_parts _ _ t).1)
            | false ↦ λ t h. absurd (cc)
          ]) refl h
    ]) refl h

values_are : (s : Store) (n : ℕ) (r : Rec) (name : Text) (f : FieldDef) (a : Atom) → at s.records n ≡ Some r → field_named s.schema r.class name ≡ Some f
    → value_in r.entries f.id f.kind ≡ value.One a → values s (name ∷ []) n ≡ as_read s a ∷ []
unfolding values
values_are s n r name f a e g v =
    ap (λ o. map (as_read s) (last_values (value_named s name o))) e
    ∙ ap (λ o. map (as_read s) (last_values (option_map (λ (h : FieldDef). value_in r.entries h.id h.kind) o))) g
    ∙ ap (λ x. map (as_read s) (last_values (Some x))) v

-- the field's index has the object with its value
in_index : (s : Store) (n : ℕ) (r : Rec) (f : FieldDef) (a : Atom) → at s.records n ≡ Some r → IsOneOf f (fields_of s.schema r.class)
    → value_in r.entries f.id f.kind ≡ value.One a → IsOneOf (a, n) (index_of s f)
unfolding index_of
in_index s n r f a e i v =
    let has : has_field s.schema f r.class ≡ true = any_passes (λ (g : FieldDef). g.id == f.id) f (fields_of s.schema r.class) i (same_number f.id) in
    let one = to_map (λ (p : ℕ × Rec). (single (value_in (p.1).entries f.id f.kind), p.0)) (n, r) _ (to_filter (λ (p : ℕ × Rec). has_field s.schema f (p.1).class) (n, r) s.records (record_is_one n r s.records e) has) in
    subst (λ x. IsOneOf {X = Atom × ℕ} (single x, n) (map (λ (p : ℕ × Rec). (single (value_in (p.1).entries f.id f.kind), p.0)) (filter (λ (p : ℕ × Rec). has_field s.schema f (p.1).class) s.records))) v one

or_false : (b : Bool) → (b || false) ≡ true → b ≡ true
or_false true h = refl
or_false false h = h

hit : (s : Store) (c n : ℕ) (name : Text) (f : FieldDef) (holds : Atom → Bool) → KeepsStore s → is_of s c n ≡ true → indexed_field s.schema c name ≡ Some f
    → ((a : Atom) → holds (as_read s a) ≡ true → holds a ≡ true) → list_any holds (values s (name ∷ []) n) ≡ true → is_in (hits s (record { field = f; holds = holds })) n ≡ true
hit s c n name f holds k o x back h =
    let rules = rules_kept s.schema k.schema in
    let r = object_of s c n o in
    let g = indexed_is s.schema c name f x in
    let below = named_below s.schema (r.0).class c name f (is_earlier s.schema rules.parents) r.2 g.0 in
    let i = named_is_one s.schema (r.0).class name f below in
    let v = single_is f.kind (value_in (r.0).entries f.id f.kind) g.1 (value_fits s.schema r.0 f rules.ids (k.suit n r.0 r.1) i) in
    let read : holds (as_read s v.0) ≡ true = or_false _ (sym (ap (list_any holds) (values_are s n r.0 name f v.0 r.1 below v.1)) ∙ h) in
    is_among n _ (to_map (λ (e : Atom × ℕ). e.1) (v.0, n) _ (to_filter (λ (e : Atom × ℕ). holds e.0) (v.0, n) (index_of s f) (in_index s n r.0 f v.0 r.1 i v.1) (back v.0 read)))

-- ---- every part that an index answers gives the object

mapped_is : (o : Option FieldDef) (holds : Atom → Bool) (l : Lookup) → option_map (λ (f : FieldDef). record { field = f; holds = holds }) o ≡ Some l
    → (f : FieldDef) × (o ≡ Some f) × (◌≡◌ {A = Lookup} l (record { field = f; holds = holds }))
mapped_is None holds l h = absurd (cc)
mapped_is (Some f) holds l h = (f, refl, (let q : record { field = f; holds = holds } ≡ l = cc in sym q))

lookup_hits : (s : Store) (c n : ℕ) (e : Expr) (l : Lookup) → KeepsStore s → is_of s c n ≡ true → meets s e n ≡ true → lookup s.schema c e ≡ Some l → is_in (hits s l) n ≡ true
unfolding meets
lookup_hits s c n (Test (name ∷ []) o literal) l k q m h =
    (elim (is_looked_up o literal) as (λ t. is_looked_up o literal ≡ t
    → (if t then option_map (λ f. record { field = f; holds = passes o literal }) (indexed_field s.schema c name) else None) ≡ Some l → is_in (hits s l) n ≡ true) [
      | true ↦ λ t h. let r = mapped_is (indexed_field s.schema c name) (passes o literal) l h in
          ap (λ z. is_in (hits s z) n) r.2 ∙ hit s c n name r.0 (passes o literal) k q r.1 (λ a. test_back s o literal a t) m
      | false ↦ λ t h. absurd (cc)
    ]) refl h
lookup_hits s c n (Is (name ∷ []) number) l k q m h =
    let r = mapped_is (indexed_field s.schema c name) (ref_meets (λ j. j == number)) l h in
    ap (λ z. is_in (hits s z) n) r.2 ∙ hit s c n name r.0 (ref_meets (λ j. j == number)) k q r.1 (λ a. ref_back s (λ j. j == number) a) m
lookup_hits s c n e l k q m h = cc

-- ---- what meets an expression meets its parts under `and`

mutual
  unfolding meets conjuncts

  parts_met : (s : Store) (n : ℕ) (e : Expr) → meets s e n ≡ true → list_all (λ p. meets s p n) (conjuncts e) ≡ true
  parts_met s n (And' p es) h = rows_met s n es h
  parts_met s n e h = and_from _ true h refl

  rows_met : (s : Store) (n : ℕ) {k : _} (es : Row_of-Expr k) → all_meet s es n ≡ true → list_all (λ p. meets s p n) (all_conjuncts es) ≡ true
  rows_met s n end_of-Expr h = refl
  rows_met s n (more_of-Expr e es) h =
      let r = and_parts (meets s e n) (all_meet s es n) h in
      list_all-append (λ p. meets s p n) (conjuncts e) (all_conjuncts es) ∙ and_from _ _ (parts_met s n e r.0) (rows_met s n es r.1)

-- ---- the shortest of the lists has the object

in_shorter : (n : ℕ) (ns : List ℕ) (o : Option (List ℕ)) → is_in ns n ≡ true → is_left o n ≡ true → is_in (shorter ns o) n ≡ true
in_shorter n ns None h k = h
in_shorter n ns (Some ms) h k = elim (nat_le (length ns) (length ms)) as (λ t. is_in (if t then ns else ms) n ≡ true) [ true ↦ h | false ↦ k ]

in_shortest : (n : ℕ) (lists : List (List ℕ)) → list_all (λ ns. is_in ns n) lists ≡ true → is_left (shortest lists) n ≡ true
in_shortest n [] h = refl
in_shortest n (ns ∷ lists) h = let r = and_parts (is_in ns n) (list_all (λ ms. is_in ms n) lists) h in in_shorter n ns (shortest lists) r.0 (in_shortest n lists r.1)

all_hit : (s : Store) (c n : ℕ) (es : List Expr) → KeepsStore s → is_of s c n ≡ true → list_all (λ p. meets s p n) es ≡ true
    → list_all (λ ns. is_in ns n) (map (hits s) (filter_map (lookup s.schema c) es)) ≡ true
all_hit s c n [] k q h = refl
all_hit s c n (e ∷ es) k q h =
    let r = and_parts (meets s e n) (list_all (λ p. meets s p n) es) h in
    let others = all_hit s c n es k q r.1 in
    (elim (lookup s.schema c e) as (λ o. lookup s.schema c e ≡ o → list_all (λ ns. is_in ns n) (map (hits s) (cons_option o (filter_map (lookup s.schema c) es))) ≡ true) [
      | None ↦ λ _. others
      | Some l ↦ λ x. and_from _ _ (lookup_hits s c n e l k q r.0 x) others
    ]) refl

left_over : (s : Store) (c n : ℕ) (e : Expr) → KeepsStore s → is_of s c n ≡ true → meets s e n ≡ true → is_left (looked_up s c e) n ≡ true
unfolding looked_up
left_over s c n e k q m = in_shortest n (map (hits s) (filter_map (lookup s.schema c) (conjuncts e))) (all_hit s c n (conjuncts e) k q (parts_met s n e m))

-- ---- the laws

pub found_among : (s : Store) (c : ℕ) (e : Expr) (n : ℕ) → KeepsStore s → IsOneOf n (found s c e) → IsOneOf n (candidates s c e)
unfolding candidates
found_among s c e n k h =
    let r = from_filter (λ m. is_of s c m && meets s e m) n (keys s.records) h in
    let b = and_parts (is_of s c n) (meets s e n) r.1 in
    to_filter (λ m. is_of s c m && is_left (looked_up s c e) m) n (keys s.records) r.0 (and_from _ _ b.0 (left_over s c n e k b.0 b.1))

-- a filter of what a filter left is one by both tests
filter_both : (p q r : ℕ → Bool) → ((n : ℕ) → (p n && q n) ≡ r n) → (ns : List ℕ) → filter q (filter p ns) ≡ filter r ns
filter_both p q r both [] = refl
filter_both p q r both (n ∷ ns) =
    let rest = filter_both p q r both ns in
    (elim (p n) as (λ a. (a && q n) ≡ r n → filter q (cond a (n ∷ filter p ns) (filter p ns)) ≡ cond (r n) (n ∷ filter r ns) (filter r ns)) [
      | true ↦ λ e i. cond (e i) (n ∷ rest i) (rest i)
      | false ↦ λ e i. cond (e i) (n ∷ rest i) (rest i)
    ]) (both n)

same_tests : (a b c : Bool) → (a ≡ true → c ≡ true → b ≡ true) → ((a && b) && c) ≡ (a && c)
same_tests false b c h = refl
same_tests true b false h = elim b as (λ b. (b && false) ≡ false) [ true ↦ refl | false ↦ refl ]
same_tests true b true h = ap (λ b. b && true) (h refl refl)

pub found_is : (s : Store) (c : ℕ) (e : Expr) → KeepsStore s → filter (meets s e) (candidates s c e) ≡ found s c e
unfolding candidates
found_is s c e k =
    filter_both (λ n. is_of s c n && is_left (looked_up s c e) n) (meets s e) (λ n. is_of s c n && meets s e n)
    (λ n. same_tests (is_of s c n) (is_left (looked_up s c e) n) (meets s e n) (left_over s c n e k)) (keys s.records)
