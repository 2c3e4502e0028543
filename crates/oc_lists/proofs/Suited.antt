-- Lists of a schema, and what a change of one object makes of them.
use Rattle.std.proofs.Common.{◌≡◌, ◌∙◌, ap, sym, refl, subst, ℕ, zero, suc, length, ◌<◌, ◌^◌, Bool, true, false, cond, not, ◌==◌, IsTrue, List, [], ◌∷◌, filter, Option, None, Some, is_some, arith}
use Rattle.std.specs.Prelude.{IfSome, slice_get}
use Rattle.std.specs.List.{list_all}
use Rattle.std.specs.Ordering.{is_eq, is_lt}
use Rattle.std.specs.declared.cmp.Ordering.{Ordering}
use Rattle.std.proofs.lemmas.Bool.{and_from, and_parts, eqb-true}
use Rattle.std.proofs.lemmas.Bool.Decides.{nat_tests}
use Rattle.oc_model.specs.declared.value.Atom.{Atom}
use Rattle.oc_model.specs.declared.value.Base.{Base}
use Rattle.oc_model.specs.declared.value.Rec.{Rec}
use Rattle.oc_model.specs.declared.schema.FieldDef.{FieldDef}
use Rattle.oc_model.specs.Lengths.{indexed_fields}
use Rattle.oc_model.specs.Lists.{placed, IsOneOf}
use Rattle.oc_model.specs.SchemaRules.{all_fields, keeps_rules}
use Rattle.oc_model.specs.Schemas.{Schema, class_at, fields_of}
use Rattle.oc_model.specs.Spelling.{is_word}
use Rattle.oc_model.specs.Stores.{base_of}
use Rattle.oc_model.proofs.Elements.{from_filter, from_map, to_filter}
use Rattle.oc_model.proofs.Inherited.{apart_same, current_in_all}
use Rattle.oc_model.proofs.Rules.{rules_kept}
use Rattle.oc_schema.proofs.Parting.{few_classes}
use Rattle.oc_chunks.specs.Ascending.{entered, has, Each}
use Rattle.oc_chunks.specs.Chunks.{joined}
use Rattle.oc_chunks.proofs.Eaches.{each_more}
use Rattle.oc_chunks.proofs.Views.{each_member}
use Rattle.oc_index.specs.declared.items.ExtentItem.{ExtentItem}
use Rattle.oc_index.specs.declared.items.IndexItem.{IndexItem}
use Rattle.oc_index.specs.Fields.{FieldList}
use Rattle.oc_index.specs.Indexed.{StoreLists}
use Rattle.oc_index.specs.Items.{extent_cmp, index_cmp}
use Rattle.oc_index.specs.Ranges.{is_entry, is_numbered}
use Rattle.oc_segments.specs.Items.{extent_fits, index_stands}
use Rattle.oc_lists.specs.Changing.{IsStorable}
use Rattle.oc_lists.specs.Keeping.{extent_suits, AreListsOf}
use Rattle.oc_lists.specs.Lists.{bases_in, key_in}
use Rattle.oc_lists.specs.Moving.{AreMoved, IsMoved}
use Rattle.oc_lists.specs.Refiling.{at_field, class_for, class_of_rec, indexed_for, indexed_in, is_kept, key_under, refiled, rekeyed, relisted, with_key, without_key, Refiles}
use Rattle.oc_lists.proofs.FieldWise.{fields_both, fields_each}
use Rattle.oc_lists.proofs.Moved.{indexes_moved}
use Rattle.oc_lists.proofs.PartOf.{part_filter, part_passes}
use Rattle.oc_lists.proofs.StoredKeys.{key_stands, storable_keys, HasKeys}

-- ---- what passes of a list passes with one element more

module _ {X : Type 0} (cmp : X → X → Ordering) (p : X → Bool) where
  placed_passes : (x : X) (xs : List X) → IsTrue (p x) → IsTrue (list_all p xs) → IsTrue (list_all p (placed cmp x xs))
  placed_passes x [] one all = and_from (p x) true one refl
  placed_passes x (y ∷ ys) one all =
      let b = and_parts (p y) (list_all p ys) all in
      (elim (is_lt (cmp y x)) as (λ t. IsTrue (list_all p (cond t (y ∷ placed cmp x ys) (x ∷ y ∷ ys)))) [
        | true ↦ and_from (p y) (list_all p (placed cmp x ys)) b.0 (placed_passes x ys one b.1)
        | false ↦ and_from (p x) (list_all p (y ∷ ys)) one all
      ])

  entered_passes : (x : X) (xs : List X) → IsTrue (p x) → IsTrue (list_all p xs) → IsTrue (list_all p (entered cmp x xs))
  entered_passes x xs one all =
      (elim (has cmp x xs) as (λ t. IsTrue (list_all p (cond t xs (placed cmp x xs)))) [
        | true ↦ all
        | false ↦ placed_passes x xs one all
      ])

filter_passes : {X : Type 0} (p q : X → Bool) (xs : List X) → IsTrue (list_all p xs) → IsTrue (list_all p (filter q xs))
filter_passes p q xs all = part_passes p (filter q xs) xs (part_filter q xs) all

-- ---- the extents

relisted_passes : (p : ExtentItem → Bool) (k : ℕ) (class : Option ℕ) (es : List ExtentItem) → IfSome class (λ c. IsTrue (p (record { number = k; class = c }))) → IsTrue (list_all p es) → IsTrue (list_all p (relisted k class es))
relisted_passes p k None es one all = filter_passes p (λ e. not (is_numbered k e)) es all
relisted_passes p k (Some c) es one all = placed_passes extent_cmp p (record { number = k; class = c }) (filter (λ e. not (is_eq (extent_cmp e (record { number = k; class = c })))) es) one (filter_passes p (λ e. not (is_eq (extent_cmp e (record { number = k; class = c })))) es all)

-- the numbers of classes are small
pub slice_small : {X : Type 0} (xs : List X) (n : ℕ) → is_some (slice_get xs n) ≡ true → n < length xs
slice_small [] n h = absurd (cc)
slice_small (x ∷ xs) zero h = omega arith
slice_small (x ∷ xs) (suc n) h = let lt = slice_small xs n h in omega arith

class_small : (s : Schema) (c : ℕ) → keeps_rules s ≡ true → is_some (class_at s c) ≡ true → c < 2 ^ 32
class_small s zero keeps h = omega arith
class_small s (suc c) keeps h = let lt = slice_small s.classes c h in let few = few_classes s keeps in omega arith

word : (n : ℕ) → n < 2 ^ 32 → IsTrue (is_word n)
word n lt = grind (arith, nat_tests, lt)

extent_writable : (s : Schema) (k c : ℕ) → keeps_rules s ≡ true → k < 2 ^ 32 → is_some (class_at s c) ≡ true → IsTrue (extent_fits None (record { number = k; class = c }))
extent_writable s k c keeps small there = and_from (is_word k) (is_word c) (word k small) (word c (class_small s c keeps there))

new_class : (s : Schema) (new : Option Rec) (P : ℕ → Type 0) → ((r : Rec) → IsStorable s r → P r.class) → IfSome new (IsStorable s) → IfSome (class_of_rec new) P
new_class s None P turn h = tt
new_class s (Some r) P turn h = turn r h

-- ---- an index

module _ (s : Schema) (keeps : IsTrue (keeps_rules s)) where
  -- the kind of a field's index
  same_base : (f : FieldDef) (id : ℕ) (b : Base) → IsOneOf f (indexed_fields s) → f.id ≡ id → IsOneOf (id, b) (bases_in s) → b ≡ base_of f.kind
  same_base f id b one same is =
      let g = from_map (λ (f : FieldDef). (f.id, base_of f.kind)) (id, b) (indexed_fields s) is in
      let at_f = from_filter (λ (f : FieldDef). f.indexed) f (all_fields s) one in
      let at_g = from_filter (λ (f : FieldDef). f.indexed) g.0 (all_fields s) g.1 in
      let alike : f ≡ g.0 = apart_same f g.0 (all_fields s) (rules_kept s keeps).ids at_f.0 at_g.0 (same ∙ ap (λ p. p.0) g.2) in
      ap (λ p. p.1) g.2 ∙ ap (λ (f : FieldDef). base_of f.kind) (sym alike)

  module _ (k : ℕ) (small : k < 2 ^ 32) (old new : Option Rec) (may : IfSome new (HasKeys s)) where
    passes_without : (p : IndexItem → Bool) (key : Option Atom) (es : List IndexItem) → IsTrue (list_all p es) → IsTrue (list_all p (without_key k key es))
    passes_without p None es all = all
    passes_without p (Some key) es all = filter_passes p (λ e. not (is_entry key k e)) es all

    passes_with : (f : FieldDef) → IsOneOf f (indexed_fields s) → (o : Option Rec) → IfSome o (HasKeys s) → (es : List IndexItem) → IsTrue (list_all (index_stands (Some (base_of f.kind))) es) → IsTrue (list_all (index_stands (Some (base_of f.kind))) (with_key k (key_under f o) es))
    passes_with f one None may es all = all
    passes_with f one (Some r) may es all = entered_passes index_cmp (index_stands (Some (base_of f.kind))) (record { key = key_in f r; number = k }) es (key_stands s f keeps one r k may small) all

    passes_rekeyed : (f : FieldDef) → IsOneOf f (indexed_fields s) → (es : List IndexItem) → IsTrue (list_all (index_stands (Some (base_of f.kind))) es) → IsTrue (list_all (index_stands (Some (base_of f.kind))) (rekeyed k (key_under f old) (key_under f new) es))
    passes_rekeyed f one es all =
        (elim (is_kept (key_under f old) (key_under f new)) as (λ t. IsTrue (list_all (index_stands (Some (base_of f.kind))) (cond t es (with_key k (key_under f new) (without_key k (key_under f old) es))))) [
          | true ↦ all
          | false ↦ passes_with f one new may (without_key k (key_under f old) es) (passes_without (index_stands (Some (base_of f.kind))) (key_under f old) es all)
        ])

    pub passes_refiled : (fs : List FieldDef) → Each (λ f. IsOneOf f (indexed_fields s)) fs → (id : ℕ) (b : Base) → IsOneOf (id, b) (bases_in s) → (es : List IndexItem) → IsTrue (list_all (index_stands (Some b)) es) → IsTrue (list_all (index_stands (Some b)) (refiled k old new fs id es))
    passes_refiled [] all id b is es pass = pass
    passes_refiled (f ∷ fs) all id b is es pass =
        passes_refiled fs all.1 id b is (at_field f.id (rekeyed k (key_under f old) (key_under f new)) id es)
        ((elim (f.id == id) as (λ t. (f.id == id) ≡ t → IsTrue (list_all (index_stands (Some b)) (cond t (rekeyed k (key_under f old) (key_under f new) es) es))) [
          | true ↦ λ same.
              let kind : b ≡ base_of f.kind = same_base f id b all.0 (eqb-true f.id id same) is in
              subst (λ c. IsTrue (list_all (index_stands (Some c)) (rekeyed k (key_under f old) (key_under f new) es))) (sym kind)
              (passes_rekeyed f all.0 es (subst (λ c. IsTrue (list_all (index_stands (Some c)) es)) kind pass))
          | false ↦ λ other. pass
        ]) refl)

  pub indexed_all : (class : Option ℕ) → Each (λ f. IsOneOf f (indexed_fields s)) (indexed_for s class)
  indexed_all None = tt
  indexed_all (Some class) =
      each_more (λ f. IsOneOf f (indexed_in s class)) (λ f. IsOneOf f (indexed_fields s)) (indexed_in s class)
      (λ f m. let b = from_filter (λ (g : FieldDef). g.indexed) f (fields_of s class) m in to_filter (λ (g : FieldDef). g.indexed) f (all_fields s) (current_in_all f s class b.0) b.1) (each_member (indexed_in s class))

  -- ---- all lists

  abbrev Stands : ℕ × FieldList → Type 0
  Stands f = IsTrue (list_all (index_stands (Some (f.1).base)) (joined (f.1).chunks))

  abbrev IsOf : ℕ × FieldList → Type 0
  IsOf f = IsOneOf (f.0, (f.1).base) (bases_in s)

  pub each_both : {X : Type 0} (P Q R : X → Type 0) → ((x : X) → P x → Q x → R x) → (xs : List X) → Each P xs → Each Q xs → Each R xs
  each_both P Q R both [] a b = tt
  each_both P Q R both (x ∷ xs) a b = (both x a.0 b.0, each_both P Q R both xs a.1 b.1)

  abbrev Files : ℕ → Option Rec → Option Rec → ℕ → FieldList → FieldList → Type 0
  Files k old new id i j = joined j.chunks ≡ refiled k old new (indexed_for s (class_for old new)) id (joined i.chunks)

  abbrev Turns : ℕ → Option Rec → Option Rec → ℕ → FieldList → FieldList → Type 0
  Turns k old new id i j = IsMoved i j × Files k old new id i j

  -- one object is put in, changed or taken out
  pub lists_more : (l m : StoreLists) (k : ℕ) → k < 2 ^ 32 → (old new : Option Rec) → IfSome new (IsStorable s) → AreMoved l m → joined (m.extents).chunks ≡ relisted k (class_of_rec new) (joined (l.extents).chunks)
      → Refiles (refiled k old new (indexed_for s (class_for old new))) l m → AreListsOf s l → AreListsOf s m
  lists_more l m k small old new may moved extents entries h = record {
    indexes = indexes_moved s l m moved h.indexes;
    classes = subst (λ es. IsTrue (list_all (extent_suits s) es)) (sym extents) (relisted_passes (extent_suits s) k (class_of_rec new) (joined (l.extents).chunks) (new_class s new (λ c. IsTrue (extent_suits s (record { number = k; class = c }))) (λ r it. it.suits.class) may) h.classes);
    writable = record {
      extents = subst (λ es. IsTrue (list_all (extent_fits None) es)) (sym extents) (relisted_passes (extent_fits None) k (class_of_rec new) (joined (l.extents).chunks) (new_class s new (λ c. IsTrue (extent_fits None (record { number = k; class = c }))) (λ r it. extent_writable s k r.class keeps small it.suits.class) may) h.writable.extents);
      fields = fields_each (Turns k old new) (λ f. IsOf f × Stands f) Stands turn l.fields m.fields (fields_both (λ id. IsMoved) (Files k old new) (Turns k old new) (λ id i j a b. (a, b)) l.fields m.fields moved.fields entries) (each_both IsOf Stands (λ f. IsOf f × Stands f) (λ f a b. (a, b)) l.fields h.indexes.bases h.writable.fields);
    };
  }
    where
      turn : (id : ℕ) (i j : FieldList) → Turns k old new id i j → IsOf (id, i) × Stands (id, i) → Stands (id, j)
      turn id i j a b =
          subst (λ t. IsTrue (list_all (index_stands (Some t)) (joined j.chunks))) (sym a.0.base)
          (subst (λ es. IsTrue (list_all (index_stands (Some i.base)) es)) (sym a.1) (passes_refiled k small old new (storable_keys s keeps new may) (indexed_for s (class_for old new)) (indexed_all (class_for old new)) id i.base b.0 (joined i.chunks) b.1))
