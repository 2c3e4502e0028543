-- What the lists keep once the indexes of a new schema are started.
use Rattle.std.proofs.Common.{◌≡◌, ◌⊎◌, ◌∙◌, ap, ap₂, sym, refl, subst, inl, inr, ℕ, Bool, true, false, true≢false, ◌<◌, ◌^◌, cond, not, ◌&&◌, ◌||◌, IsTrue, List, [], ◌∷◌, ◌++◌, map, filter, flat_map, nat_le, nat_cmp, Some, None}
use Rattle.std.specs.List.{list_all}
use Rattle.std.specs.Ordering.{is_lt}
use Rattle.oc_model.specs.declared.value.Base.{Base}
use Rattle.oc_model.specs.declared.value.Rec.{Rec}
use Rattle.oc_model.specs.declared.schema.FieldDef.{FieldDef}
use Rattle.oc_model.specs.Lengths.{indexed_fields}
use Rattle.oc_model.specs.Lists.{placed, sorted, IsOneOf}
use Rattle.oc_model.specs.Maps.{is_in}
use Rattle.oc_model.specs.Schemas.{Schema}
use Rattle.oc_model.specs.SchemaRules.{keeps_rules}
use Rattle.oc_model.specs.Stores.{base_of}
use Rattle.oc_model.proofs.Elements.{from_filter, from_map, to_map, weaker}
use Rattle.oc_catalog.specs.Catalogs.{indexed_ids}
use Rattle.oc_chunks.specs.Ascending.{Each}
use Rattle.oc_chunks.specs.Chunks.{joined, numbers}
use Rattle.oc_index.specs.Fields.{FieldList}
use Rattle.oc_index.specs.Indexed.{field_cmp, undone, StoreLists}
use Rattle.oc_segments.specs.Items.{index_stands, extent_fits}
use Rattle.oc_lists.specs.Following.{empty_index, has_index, newly_indexed, with_started, with_these, MayFollow}
use Rattle.oc_lists.specs.Keeping.{extent_suits, list_numbers, AreKept, AreListsOf, AreNumbered, StandAsThen}
use Rattle.oc_lists.specs.Lists.{bases_in, HasIndexes}
use Rattle.oc_marshal.specs.Records.{IsRecord}
use Rattle.oc_model.specs.StoreRules.{Suits}
use Rattle.oc_lists.proofs.StoredKeys.{recorded_keys}
use Rattle.oc_lists.specs.Moving.{AreMoved, ArePartOf, IsMoved}
use Rattle.oc_lists.specs.Refiling.{indexed_in, refiled, Refiles}
use Rattle.oc_lists.proofs.Entering.{indexed_one}
use Rattle.oc_lists.proofs.FieldWise.{fields_both, fields_each}
use Rattle.oc_lists.proofs.IndexedIds.{in_sorted, indexed_apart}
use Rattle.oc_lists.proofs.Moved.{indexes_moved}
use Rattle.oc_lists.proofs.Suited.{each_both, indexed_all, passes_refiled}
use Rattle.oc_lists.proofs.OneOrder.{all_ascend, filter_ascends, in_all_placed, in_filter, placed_all, placed_all_none, placed_all_one, same_numbers, sorted_ascends}
use Rattle.oc_lists.proofs.PartOf.{part_append, part_apart, part_filter, part_none, part_passes, part_self}
use Rattle.oc_lists.proofs.Placing.{each_placed}

-- ---- each index

-- what holds of an index that the test lets stay holds of it in another way
each_staying : {X : Type 0} (P Q : X → Type 0) (t : X → Bool) (xs : List X) → ((x : X) → t x ≡ true → P x → Q x) → Each P xs → Each Q (filter t xs)
each_staying P Q t [] turn each = tt
each_staying P Q t (x ∷ xs) turn each =
    (elim (t x) as (λ b. t x ≡ b → Each Q (cond b (x ∷ filter t xs) (filter t xs))) [
      | true ↦ λ it. (turn x it each.0, each_staying P Q t xs turn each.1)
      | false ↦ λ off. each_staying P Q t xs turn each.1
    ]) refl

each_started : (P : ℕ × FieldList → Type 0) (es : List (ℕ × Base)) (is : List (ℕ × FieldList)) → ((e : ℕ × Base) → IsOneOf e es → P (e.0, empty_index e.1)) → Each P is → Each P (with_started es is)
each_started P [] is new each = each
each_started P (e ∷ es) is new each = each_started P es (placed field_cmp (e.0, empty_index e.1) is) (λ d one. new d (inr one)) (each_placed field_cmp P (e.0, empty_index e.1) is (new e (inl refl)) each)

-- ---- the numbers of the chunks

abbrev numbers_in : List (ℕ × FieldList) → List ℕ
numbers_in fs = flat_map (λ (f : ℕ × FieldList). numbers (f.1).chunks) fs

numbers_placed : (e : ℕ × Base) (is : List (ℕ × FieldList)) → numbers_in (placed field_cmp (e.0, empty_index e.1) is) ≡ numbers_in is
numbers_placed e [] = refl
numbers_placed e (i ∷ is) = elim (is_lt (field_cmp i (e.0, empty_index e.1))) as (λ b. numbers_in (cond b (i ∷ placed field_cmp (e.0, empty_index e.1) is) ((e.0, empty_index e.1) ∷ i ∷ is)) ≡ numbers_in (i ∷ is)) [
  | true ↦ ap (λ l. numbers (i.1).chunks ++ l) (numbers_placed e is)
  | false ↦ refl
]

numbers_started : (es : List (ℕ × Base)) (is : List (ℕ × FieldList)) → numbers_in (with_started es is) ≡ numbers_in is
numbers_started [] is = refl
numbers_started (e ∷ es) is = numbers_started es (placed field_cmp (e.0, empty_index e.1) is) ∙ numbers_placed e is

numbers_staying : (t : ℕ × FieldList → Bool) (is : List (ℕ × FieldList)) → ArePartOf (numbers_in (filter t is)) (numbers_in is)
numbers_staying t [] = refl
numbers_staying t (i ∷ is) = elim (t i) as (λ b. ArePartOf (numbers_in (cond b (i ∷ filter t is) (filter t is))) (numbers_in (i ∷ is))) [
  | true ↦ part_append (numbers (i.1).chunks) (numbers (i.1).chunks) (numbers_in (filter t is)) (numbers_in is) (part_self (numbers (i.1).chunks)) (numbers_staying t is)
  | false ↦ part_append [] (numbers (i.1).chunks) (numbers_in (filter t is)) (numbers_in is) (part_none (numbers (i.1).chunks)) (numbers_staying t is)
]

-- ---- the ids

ids_placed : (x : ℕ × FieldList) (is : List (ℕ × FieldList)) → map (λ (i : ℕ × FieldList). i.0) (placed field_cmp x is) ≡ placed nat_cmp x.0 (map (λ (i : ℕ × FieldList). i.0) is)
ids_placed x [] = refl
ids_placed x (i ∷ is) = elim (is_lt (nat_cmp i.0 x.0)) as (λ b. map (λ (i : ℕ × FieldList). i.0) (cond b (i ∷ placed field_cmp x is) (x ∷ i ∷ is)) ≡ cond b (i.0 ∷ placed nat_cmp x.0 (map (λ (i : ℕ × FieldList). i.0) is)) (x.0 ∷ i.0 ∷ map (λ (i : ℕ × FieldList). i.0) is)) [
  | true ↦ ap (λ l. i.0 ∷ l) (ids_placed x is)
  | false ↦ refl
]

ids_started : (es : List (ℕ × Base)) (is : List (ℕ × FieldList)) → map (λ (i : ℕ × FieldList). i.0) (with_started es is) ≡ placed_all (map (λ (e : ℕ × Base). e.0) es) (map (λ (i : ℕ × FieldList). i.0) is)
ids_started [] is = sym (placed_all_none (map (λ (i : ℕ × FieldList). i.0) is))
ids_started (e ∷ es) is =
    ids_started es (placed field_cmp (e.0, empty_index e.1) is)
    ∙ ap (placed_all (map (λ (e : ℕ × Base). e.0) es)) (ids_placed (e.0, empty_index e.1) is)
    ∙ sym (placed_all_one e.0 (map (λ (e : ℕ × Base). e.0) es) (map (λ (i : ℕ × FieldList). i.0) is))

-- the firsts of the pairs that pass by it
firsts_filter : {Y : Type 0} (h : ℕ → Bool) (ps : List (ℕ × Y)) → map (λ (p : ℕ × Y). p.0) (filter (λ (p : ℕ × Y). h p.0) ps) ≡ filter h (map (λ (p : ℕ × Y). p.0) ps)
firsts_filter h [] = refl
firsts_filter h (p ∷ ps) = elim (h p.0) as (λ b. map (λ (p : ℕ × _). p.0) (cond b (p ∷ filter (λ (p : ℕ × _). h p.0) ps) (filter (λ (p : ℕ × _). h p.0) ps)) ≡ cond b (p.0 ∷ filter h (map (λ (p : ℕ × _). p.0) ps)) (filter h (map (λ (p : ℕ × _). p.0) ps))) [
  | true ↦ ap (λ l. p.0 ∷ l) (firsts_filter h ps)
  | false ↦ firsts_filter h ps
]

based_ids : (fs : List FieldDef) → map (λ (e : ℕ × Base). e.0) (map (λ (f : FieldDef). (f.id, base_of f.kind)) fs) ≡ map (λ (f : FieldDef). f.id) fs
based_ids [] = refl
based_ids (f ∷ fs) = ap (λ l. f.id ∷ l) (based_ids fs)

module _ (old new : Schema) (old_keeps : keeps_rules old ≡ true) (new_keeps : keeps_rules new ≡ true) where
  added : List ℕ
  added = filter (λ n. not (has_index old n)) (indexed_ids new.classes)

  staying : List ℕ
  staying = filter (has_index new) (sorted nat_cmp (indexed_ids old.classes))

  both : (a b : Bool) → ((a && not b) || (b && a)) ≡ a
  both true true = refl
  both true false = refl
  both false true = refl
  both false false = refl

  one_side : (a b : Bool) → (a && not b) ≡ true → (b && a) ≡ false
  one_side true true it = absurd (true≢false (sym it))
  one_side true false it = refl
  one_side false b it = absurd (true≢false (sym it))

  ids_same : placed_all added staying ≡ sorted nat_cmp (indexed_ids new.classes)
  unfolding added staying
  ids_same =
      same_numbers (placed_all added staying) (sorted nat_cmp (indexed_ids new.classes))
      (all_ascend added staying (filter_ascends (has_index new) (sorted nat_cmp (indexed_ids old.classes)) (sorted_ascends (indexed_ids old.classes) (indexed_apart old old_keeps)))
      (part_apart added (indexed_ids new.classes) (part_filter (λ n. not (has_index old n)) (indexed_ids new.classes)) (indexed_apart new new_keeps))
      (λ q it. in_staying q ∙ one_side (has_index new q) (has_index old q) (sym (in_filter (λ n. not (has_index old n)) (indexed_ids new.classes) q) ∙ it)))
      (sorted_ascends (indexed_ids new.classes) (indexed_apart new new_keeps))
      (λ q. in_all_placed added staying q ∙ ap₂ (λ a b. a || b) (in_filter (λ n. not (has_index old n)) (indexed_ids new.classes) q) (in_staying q) ∙ both (has_index new q) (has_index old q) ∙ sym (in_sorted q (indexed_ids new.classes)))
    where
      in_staying : (q : ℕ) → is_in staying q ≡ (has_index old q && has_index new q)
      in_staying q = in_filter (has_index new) (sorted nat_cmp (indexed_ids old.classes)) q ∙ ap (λ b. b && has_index new q) (in_sorted q (indexed_ids old.classes))

  pub ids_follow : (is : List (ℕ × FieldList)) → map (λ (i : ℕ × FieldList). i.0) is ≡ sorted nat_cmp (indexed_ids old.classes) → map (λ (i : ℕ × FieldList). i.0) (with_started (newly_indexed old new) (with_these new is)) ≡ sorted nat_cmp (indexed_ids new.classes)
  unfolding added staying
  ids_follow is ids =
      ids_started (newly_indexed old new) (with_these new is)
      ∙ ap₂ placed_all
      (firsts_filter (λ n. not (has_index old n)) (bases_in new) ∙ ap (filter (λ n. not (has_index old n))) (based_ids (indexed_fields new)))
      (firsts_filter (has_index new) is ∙ ap (filter (has_index new)) ids)
      ∙ ids_same

-- ---- the lists

module _ (l m : StoreLists) (old new : Schema) (extents : m.extents ≡ l.extents) (fields : m.fields ≡ with_started (newly_indexed old new) (with_these new l.fields)) where
  started_each : (P Q : ℕ × FieldList → Type 0) → ((e : ℕ × Base) → IsOneOf e (newly_indexed old new) → Q (e.0, empty_index e.1)) → ((i : ℕ × FieldList) → has_index new i.0 ≡ true → P i → Q i) → Each P l.fields → Each Q m.fields
  started_each P Q start stay each = subst (Each Q) (sym fields) (each_started Q (newly_indexed old new) (with_these new l.fields) start (each_staying P Q (λ (i : ℕ × FieldList). has_index new i.0) l.fields stay each))

  pub kept_started : m.marked ≡ l.marked → AreKept l → AreKept m
  kept_started marked h = record {
    extents = subst (λ e. StandAsThen e.marked e.chunks) (sym extents) h.extents;
    fields = started_each (λ f. StandAsThen (f.1).marked (f.1).chunks) (λ f. StandAsThen (f.1).marked (f.1).chunks) (λ e one. tt) (λ i it stands. stands) h.fields;
    then = subst (λ fs. Each (λ f. ((f.1).marked ≡ []) ⊎ IsOneOf (f.0, undone f.1) fs) m.fields) (sym marked)
        (started_each (λ f. ((f.1).marked ≡ []) ⊎ IsOneOf (f.0, undone f.1) l.marked) (λ f. ((f.1).marked ≡ []) ⊎ IsOneOf (f.0, undone f.1) l.marked) (λ e one. inl refl) (λ i it was. was) h.then);
  }

  pub numbered_started : (has_slot : ℕ → Bool) → AreNumbered has_slot l → AreNumbered has_slot m
  numbered_started has_slot h =
      let part : ArePartOf (list_numbers m) (list_numbers l) =
      part_append (numbers (m.extents).chunks) (numbers (l.extents).chunks) (numbers_in m.fields) (numbers_in l.fields)
      (subst (λ e. ArePartOf (numbers e.chunks) (numbers (l.extents).chunks)) (sym extents) (part_self (numbers (l.extents).chunks)))
      (subst (λ ns. ArePartOf ns (numbers_in l.fields)) (sym (ap numbers_in fields ∙ numbers_started (newly_indexed old new) (with_these new l.fields))) (numbers_staying (λ (i : ℕ × FieldList). has_index new i.0) l.fields)) in
      record {
        from_2 = part_passes (nat_le 2) (list_numbers m) (list_numbers l) part h.from_2;
        once = part_apart (list_numbers m) (list_numbers l) part h.once;
        there = part_passes has_slot (list_numbers m) (list_numbers l) part h.there;
      }

  module _ (keeps : keeps_rules old ≡ true) (may : MayFollow old new) where
    -- an index that stays is of the kind that the new schema has
    stays_based : (i : ℕ × FieldList) → has_index new i.0 ≡ true → IsOneOf (i.0, (i.1).base) (bases_in old) → IsOneOf (i.0, (i.1).base) (bases_in new)
    stays_based i it one =
        let f = from_map (λ (f : FieldDef). (f.id, base_of f.kind)) (i.0, (i.1).base) (indexed_fields old) one in
        let g = indexed_one new i.0 it in
        let same = may.indexed f.0 g.0 f.1 g.1 (sym (ap (λ (e : ℕ × Base). e.0) f.2) ∙ g.2) in
        subst (λ e. IsOneOf e (bases_in new)) {x = ((g.0).id, base_of (g.0).kind)} {y = (i.0, (i.1).base)} (λ j. (sym g.2 j, (ap base_of (sym same.kind) ∙ sym (ap (λ (e : ℕ × Base). e.1) f.2)) j)) (to_map (λ (h : FieldDef). (h.id, base_of h.kind)) g.0 (indexed_fields new) g.1)

    pub indexes_started : HasIndexes old l → HasIndexes new m
    indexes_started h = record {
      ids = ap (map (λ (i : ℕ × FieldList). i.0)) fields ∙ ids_follow old new keeps may.rules l.fields h.ids;
      bases = started_each (λ f. IsOneOf (f.0, (f.1).base) (bases_in old)) (λ f. IsOneOf (f.0, (f.1).base) (bases_in new)) (λ e one. (from_filter (λ (e : ℕ × Base). not (has_index old e.0)) e (bases_in new) one).0) stays_based h.bases;
    }

    pub lists_started : AreListsOf old l → AreListsOf new m
    lists_started h = record {
      indexes = indexes_started h.indexes;
      classes = subst (λ e. IsTrue (list_all (extent_suits new) (joined e.chunks))) (sym extents)
          (weaker (extent_suits old) (extent_suits new) (λ e it. (may.suits (record { class = e.class; entries = [] }) (record { class = it; known = refl; fits = refl; by_id = refl })).class) (joined (l.extents).chunks) h.classes);
      writable = record {
        extents = subst (λ e. IsTrue (list_all (extent_fits None) (joined e.chunks))) (sym extents) h.writable.extents;
        fields = started_each (λ f. IsTrue (list_all (index_stands (Some (f.1).base)) (joined (f.1).chunks))) (λ f. IsTrue (list_all (index_stands (Some (f.1).base)) (joined (f.1).chunks))) (λ e one. refl) (λ i it stands. stands) h.writable.fields;
      };
    }

-- ---- the lists once an object is entered

-- some of the fields of a class that have an index
pub lists_entered : (s : Schema) (l m : StoreLists) (ids : List ℕ) (n : ℕ) (r : Rec) → keeps_rules s ≡ true → n < 2 ^ 32 → Suits s r → IsRecord r → AreMoved l m → m.extents ≡ l.extents
    → Refiles (refiled n None (Some r) (filter (λ f. is_in ids f.id) (indexed_in s r.class))) l m → AreListsOf s l → AreListsOf s m
lists_entered s l m ids n r keeps small suits is moved extents refiles h = record {
  indexes = indexes_moved s l m moved h.indexes;
  classes = subst (λ e. IsTrue (list_all (extent_suits s) (joined e.chunks))) (sym extents) h.classes;
  writable = record {
    extents = subst (λ e. IsTrue (list_all (extent_fits None) (joined e.chunks))) (sym extents) h.writable.extents;
    fields = fields_each Turns Stood Stands turn l.fields m.fields (fields_both (λ id. IsMoved) Files Turns (λ id i j a b. (a, b)) l.fields m.fields moved.fields refiles)
        (each_both s keeps (λ f. IsOneOf (f.0, (f.1).base) (bases_in s)) Stands Stood (λ f a b. (a, b)) l.fields h.indexes.bases h.writable.fields);
  };
}
  where
    Stands : ℕ × FieldList → Type 0
    Stands f = IsTrue (list_all (index_stands (Some (f.1).base)) (joined (f.1).chunks))

    Stood : ℕ × FieldList → Type 0
    Stood f = IsOneOf (f.0, (f.1).base) (bases_in s) × Stands f

    fs : List FieldDef
    fs = filter (λ (f : FieldDef). is_in ids f.id) (indexed_in s r.class)

    Files : ℕ → FieldList → FieldList → Type 0
    Files id i j = joined j.chunks ≡ refiled n None (Some r) fs id (joined i.chunks)

    Turns : ℕ → FieldList → FieldList → Type 0
    Turns id i j = IsMoved i j × Files id i j

    some_indexed : Each (λ f. IsOneOf f (indexed_fields s)) fs
    some_indexed = each_staying (λ (f : FieldDef). IsOneOf f (indexed_fields s)) (λ (f : FieldDef). IsOneOf f (indexed_fields s)) (λ (f : FieldDef). is_in ids f.id) (indexed_in s r.class) (λ f it one. one) (indexed_all s keeps (Some r.class))

    turn : (id : ℕ) (i j : FieldList) → Turns id i j → Stood (id, i) → Stands (id, j)
    turn id i j a b =
        subst (λ t. IsTrue (list_all (index_stands (Some t)) (joined j.chunks))) (sym a.0.base)
        (subst (λ es. IsTrue (list_all (index_stands (Some i.base)) es)) (sym a.1) (passes_refiled s keeps n small None (Some r) (recorded_keys s r suits is) fs some_indexed id i.base b.0 (joined i.chunks) b.1))
