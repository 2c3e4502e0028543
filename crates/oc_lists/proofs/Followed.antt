-- The lists of a store follow a change of one object.
use Rattle.std.proofs.Common.{◌≡◌, ◌∙◌, inl, inr, ap, sym, refl, subst, ℕ, zero, suc, ◌+◌, arith, is_some, Bool, true, false, true≢false, cond, not, ◌==◌, ◌||◌, IsTrue, List, [], ◌∷◌, map, filter, Option, None, Some}
use Rattle.std.specs.Prelude.{IfSome, slice_get}
use Rattle.std.specs.List.{enumerate_from, list_all, list_any}
use Rattle.std.specs.Ordering.{is_eq}
use Rattle.std.proofs.lemmas.Bool.{and_parts, both_ways, eq-eqb, eqb-true, not-true, or_parts}
use Rattle.oc_model.specs.declared.value.Rec.{Rec}
use Rattle.oc_model.specs.declared.schema.FieldDef.{FieldDef}
use Rattle.oc_model.specs.declared.schema.ClassDef.{ClassDef}
use Rattle.oc_model.specs.Candidates.{has_field}
use Rattle.oc_model.specs.Lengths.{indexed_fields}
use Rattle.oc_model.specs.Lists.{IsOneOf}
use Rattle.oc_model.specs.Maps.{are_distinct, at, same}
use Rattle.oc_model.specs.Orders.{compare}
use Rattle.oc_model.specs.SchemaRules.{all_fields, keeps_rules}
use Rattle.oc_model.specs.Schemas.{Schema, class_at, fields_of}
use Rattle.oc_model.specs.StoreRules.{KeepsStore, Suits}
use Rattle.oc_model.specs.Stores.{Store}
use Rattle.oc_model.proofs.Elements.{any_passes, from_filter}
use Rattle.oc_model.proofs.Inherited.{apart_same, current_in_all}
use Rattle.oc_model.proofs.Reaching.{is_equal}
use Rattle.oc_model.proofs.Rules.{rules_kept}
use Rattle.oc_model.proofs.SchemaLaws.{same_text}
use Rattle.oc_chunks.specs.Chunks.{joined}
use Rattle.oc_index.specs.declared.items.IndexItem.{IndexItem}
use Rattle.oc_index.specs.Fields.{FieldList}
use Rattle.oc_index.specs.Indexed.{StoreLists}
use Rattle.oc_lists.specs.Lists.{entries_of, extents_of, key_in, HasLists}
use Rattle.oc_lists.specs.Refiling.{class_for, class_of_rec, indexed_for, indexed_in, key_under, refiled, rekeyed, relisted, with_key, without_key, Refiles}
use Rattle.oc_lists.proofs.Entries.{extents_gone, extents_with, index_gone, index_new, index_off_new, index_off_replaced, index_replaced, index_same, index_stays_without, index_without_none, store_with, store_without}
use Rattle.oc_lists.proofs.FieldWise.{fields_member}
use Rattle.oc_lists.proofs.Refiled.{refiled_off}
use Rattle.oc_lists.proofs.StoredKeys.{keys_same}

-- ---- the fields of a class, of which one has an index

module _ (n : ℕ) (old new : Option Rec) (f : FieldDef) where
  abbrev Indexed : FieldDef → Bool
  Indexed g = g.indexed

  abbrev Own : List IndexItem → List IndexItem
  Own es = rekeyed n (key_under f old) (key_under f new) es

  -- none of the fields has this id
  unnamed : (fs : List FieldDef) → list_any (λ g. g.id == f.id) fs ≡ false → (es : List IndexItem) → refiled n old new (filter Indexed fs) f.id es ≡ es
  unnamed fs off =
      refiled_off n old new (filter Indexed fs) f.id (λ g one same. both_ways _ off (any_passes (λ (h : FieldDef). h.id == f.id) g fs (from_filter Indexed g fs one).0 (eq-eqb g.id f.id same)))

  module _ (s : Schema) (keeps : IsTrue (keeps_rules s)) (all : IsOneOf f (all_fields s)) (indexed : f.indexed ≡ true) where
    it_is : (g : FieldDef) → IsOneOf g (all_fields s) → (g.id == f.id) ≡ true → g ≡ f
    it_is g one h = apart_same g f (all_fields s) (rules_kept s keeps).ids one all (eqb-true g.id f.id h)

    -- no two of the fields have one name, so none but this one has its id
    none_behind : (fs : List FieldDef) → ((g : FieldDef) → IsOneOf g fs → IsOneOf g (all_fields s)) → list_any (same f.name) (map (λ g. g.name) fs) ≡ false → list_any (λ g. g.id == f.id) fs ≡ false
    none_behind [] within off = refl
    none_behind (g ∷ fs) within off =
        let b = or_parts (same f.name g.name) (list_any (same f.name) (map (λ (g : FieldDef). g.name) fs)) off in
        (elim (g.id == f.id) as (λ t. (g.id == f.id) ≡ t → (t || list_any (λ (h : FieldDef). h.id == f.id) fs) ≡ false) [
          | true ↦ λ h. absurd (true≢false (sym (ap (λ (d : FieldDef). same f.name d.name) (it_is g (within g (inl refl)) h) ∙ same_text f.name) ∙ b.0))
          | false ↦ λ h. none_behind fs (λ d m. within d (inr m)) b.1
        ]) refl

    refiled_one : (fs : List FieldDef) → ((g : FieldDef) → IsOneOf g fs → IsOneOf g (all_fields s)) → are_distinct (map (λ g. g.name) fs) ≡ true → list_any (λ g. g.id == f.id) fs ≡ true → (es : List IndexItem) → refiled n old new (filter Indexed fs) f.id es ≡ Own es
    refiled_one [] within apart there es = absurd (true≢false (sym there))
    refiled_one (g ∷ fs) within apart there es =
        let b = and_parts (not (list_any (same g.name) (map (λ (g : FieldDef). g.name) fs))) (are_distinct (map (λ (g : FieldDef). g.name) fs)) apart in
        (elim (g.id == f.id) as (λ t. (g.id == f.id) ≡ t → (t || list_any (λ (h : FieldDef). h.id == f.id) fs) ≡ true → refiled n old new (filter Indexed (g ∷ fs)) f.id es ≡ Own es) [
          | true ↦ λ h _.
              let is : g ≡ f = it_is g (within g (inl refl)) h in
              let none = none_behind fs (λ d m. within d (inr m)) (ap (λ (d : FieldDef). list_any (same d.name) (map (λ (g : FieldDef). g.name) fs)) (sym is) ∙ not-true _ b.0) in
              ap (λ (d : FieldDef). refiled n old new (filter Indexed (d ∷ fs)) f.id es) is
              ∙ ap (λ t. refiled n old new (cond t (f ∷ filter Indexed fs) (filter Indexed fs)) f.id es) indexed
              ∙ ap (λ t. refiled n old new (filter Indexed fs) f.id (cond t (Own es) es)) (eq-eqb f.id f.id refl)
              ∙ unnamed fs none (Own es)
          | false ↦ λ h rest.
              (elim g.indexed as (λ t. refiled n old new (cond t (g ∷ filter Indexed fs) (filter Indexed fs)) f.id es ≡ Own es) [
                | true ↦ ap (λ t. refiled n old new (filter Indexed fs) f.id (cond t (rekeyed n (key_under g old) (key_under g new) es) es)) h ∙ refiled_one fs (λ d m. within d (inr m)) b.1 rest es
                | false ↦ refiled_one fs (λ d m. within d (inr m)) b.1 rest es
              ])
        ]) refl there

    -- of a class that has the field
    in_class : (c : ℕ) → are_distinct (map (λ g. g.name) (fields_of s c)) ≡ true → has_field s f c ≡ true → (es : List IndexItem) → refiled n old new (indexed_in s c) f.id es ≡ Own es
    in_class c apart there es = refiled_one (fields_of s c) (λ g m. current_in_all g s c m) apart there es

    off_class : (c : ℕ) → has_field s f c ≡ false → (es : List IndexItem) → refiled n old new (indexed_in s c) f.id es ≡ es
    off_class c off es = unnamed (fields_of s c) off es

-- the current fields of a class have their names apart
number_passes : (q : ℕ → Bool) (m : ℕ) (cs : List ClassDef) (i : ℕ) → list_all (λ (e : ℕ × ClassDef). q e.0) (enumerate_from m cs) ≡ true → is_some (slice_get cs i) ≡ true → q (m + i) ≡ true
number_passes q m [] i all there = absurd (true≢false (sym there))
number_passes q m (c ∷ cs) zero all there = subst (λ k. q k ≡ true) {x = m} {y = m + 0} (omega arith) (and_parts (q m) (list_all (λ (e : ℕ × ClassDef). q e.0) (enumerate_from (m + 1) cs)) all).0
number_passes q m (c ∷ cs) (suc i) all there =
    subst (λ k. q k ≡ true) {x = m + 1 + i} {y = m + suc i} (omega arith) (number_passes q (m + 1) cs i (and_parts (q m) (list_all (λ (e : ℕ × ClassDef). q e.0) (enumerate_from (m + 1) cs)) all).1 there)

names_apart : (s : Schema) (c : ℕ) → keeps_rules s ≡ true → is_some (class_at s c) ≡ true → are_distinct (map (λ g. g.name) (fields_of s c)) ≡ true
names_apart s zero keeps there = absurd (true≢false (sym there))
names_apart s (suc i) keeps there =
    subst (λ k. are_distinct (map (λ (g : FieldDef). g.name) (fields_of s k)) ≡ true) {x = 1 + i} {y = suc i} (omega arith)
    (number_passes (λ k. are_distinct (map (λ (g : FieldDef). g.name) (fields_of s k))) 1 s.classes i (rules_kept s keeps).field_names there)

-- ---- the store with one object changed

abbrev pub store_one : ℕ → Option Rec → Store → Store
store_one n None s = store_without n s
store_one n (Some r) s = store_with n r s

-- a new record has the class of the old one
abbrev pub IsOfClass : Option Rec → Option Rec → Type 0
IsOfClass old new = IfSome new (λ r. IfSome old (λ q. q.class ≡ r.class))

module _ (s : Store) (keeps : KeepsStore s) (n : ℕ) where
  extents_follow : (new : Option Rec) → extents_of (store_one n new s) ≡ relisted n (class_of_rec new) (extents_of s)
  extents_follow None = extents_gone s n
  extents_follow (Some r) = extents_with s n keeps r

  module _ (f : FieldDef) (one : IsOneOf f (indexed_fields s.schema)) where
    in_all : IsOneOf f (all_fields s.schema) × (f.indexed ≡ true)
    in_all = from_filter (λ (g : FieldDef). g.indexed) f (all_fields s.schema) one

    abbrev Refile : Option Rec → Option Rec → Type 0
    Refile old new = refiled n old new (indexed_for s.schema (class_for old new)) f.id (entries_of s f) ≡ entries_of (store_one n new s) f

    here : (old new : Option Rec) (c : ℕ) → IsTrue (is_some (class_at s.schema c)) → has_field s.schema f c ≡ true → refiled n old new (indexed_in s.schema c) f.id (entries_of s f) ≡ rekeyed n (key_under f old) (key_under f new) (entries_of s f)
    here old new c there has = in_class n old new f s.schema keeps.schema in_all.0 in_all.1 c (names_apart s.schema c keeps.schema there) has (entries_of s f)

    nowhere : (old new : Option Rec) (c : ℕ) → has_field s.schema f c ≡ false → refiled n old new (indexed_in s.schema c) f.id (entries_of s f) ≡ entries_of s f
    nowhere old new c off = off_class n old new f s.schema keeps.schema in_all.0 in_all.1 c off (entries_of s f)

    gone : (q : Rec) → at s.records n ≡ Some q → Suits s.schema q → (b : Bool) → has_field s.schema f q.class ≡ b → Refile (Some q) None
    gone q found suits true has = here (Some q) None q.class suits.class has ∙ sym (index_gone s f keeps n q found has)
    gone q found suits false off = nowhere (Some q) None q.class off ∙ sym (index_stays_without s f keeps n q found off)

    comes : (r : Rec) → at s.records n ≡ None → Suits s.schema r → (b : Bool) → has_field s.schema f r.class ≡ b → Refile None (Some r)
    comes r found suits true has = here None (Some r) r.class suits.class has ∙ sym (index_new s f keeps n r found has)
    comes r found suits false off = nowhere None (Some r) r.class off ∙ sym (index_off_new s f keeps n r found off)

    stays : (q r : Rec) → at s.records n ≡ Some q → Suits s.schema q → Suits s.schema r → q.class ≡ r.class → has_field s.schema f r.class ≡ true → (b : Bool) → is_eq (compare (key_in f q) (key_in f r)) ≡ b
        → rekeyed n (Some (key_in f q)) (Some (key_in f r)) (entries_of s f) ≡ entries_of (store_with n r s) f
    stays q r found old new same has true kept =
        ap (λ b. cond b (entries_of s f) (with_key n (Some (key_in f r)) (without_key n (Some (key_in f q)) (entries_of s f)))) kept
        ∙ sym (index_same s f keeps n q r found (ap (has_field s.schema f) same ∙ has) has (keys_same s.schema f keeps.schema one q r old new (is_equal _ kept)))
    stays q r found old new same has false moved =
        ap (λ b. cond b (entries_of s f) (with_key n (Some (key_in f r)) (without_key n (Some (key_in f q)) (entries_of s f)))) moved
        ∙ sym (index_replaced s f keeps n q r found (ap (has_field s.schema f) same ∙ has) has)

    changes : (q r : Rec) → at s.records n ≡ Some q → Suits s.schema q → Suits s.schema r → q.class ≡ r.class → (b : Bool) → has_field s.schema f r.class ≡ b → Refile (Some q) (Some r)
    changes q r found old new same true has =
        here (Some q) (Some r) r.class new.class has ∙ stays q r found old new same has (is_eq (compare (key_in f q) (key_in f r))) refl
    changes q r found old new same false off = nowhere (Some q) (Some r) r.class off ∙ sym (index_off_replaced s f keeps n q r found (ap (has_field s.schema f) same ∙ off) off)

    entries_follow : (old new : Option Rec) → at s.records n ≡ old → IsOfClass old new → IfSome new (Suits s.schema) → Refile old new
    entries_follow None None found same suits = sym (index_without_none s f keeps n found)
    entries_follow (Some q) None found same suits = gone q found (keeps.suit n q found) (has_field s.schema f q.class) refl
    entries_follow None (Some r) found same suits = comes r found suits (has_field s.schema f r.class) refl
    entries_follow (Some q) (Some r) found same suits = changes q r found (keeps.suit n q found) suits same (has_field s.schema f r.class) refl

  -- the lists of a store become those of the store with the object changed
  pub lists_follow : (l m : StoreLists) (old new : Option Rec) → at s.records n ≡ old → IsOfClass old new → IfSome new (Suits s.schema) → joined (m.extents).chunks ≡ relisted n (class_of_rec new) (joined (l.extents).chunks)
      → Refiles (refiled n old new (indexed_for s.schema (class_for old new))) l m → HasLists l s → HasLists m (store_one n new s)
  lists_follow l m old new found same suits extents entries h = record {
    extents = extents ∙ ap (relisted n (class_of_rec new)) h.extents ∙ sym (extents_follow new);
    indexes = index_follows new refl;
  }
    where
      of_field : (f : FieldDef) → IsOneOf f (indexed_fields s.schema) → (j : FieldList) → IsOneOf (f.id, j) m.fields → joined j.chunks ≡ entries_of (store_one n new s) f
      of_field f one j there =
          let r = fields_member (λ id i j. joined j.chunks ≡ refiled n old new (indexed_for s.schema (class_for old new)) id (joined i.chunks)) l.fields m.fields entries f.id j there in
          r.2 ∙ ap (refiled n old new (indexed_for s.schema (class_for old new)) f.id) (h.indexes f one r.0 r.1) ∙ entries_follow f one old new found same suits

      index_follows : (o : Option Rec) → o ≡ new → (f : FieldDef) → IsOneOf f (indexed_fields (store_one n o s).schema) → (j : FieldList) → IsOneOf (f.id, j) m.fields → joined j.chunks ≡ entries_of (store_one n o s) f
      index_follows None is f one j there = subst (λ o. joined j.chunks ≡ entries_of (store_one n o s) f) (sym is) (of_field f one j there)
      index_follows (Some r) is f one j there = subst (λ o. joined j.chunks ≡ entries_of (store_one n o s) f) (sym is) (of_field f one j there)
