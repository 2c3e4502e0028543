-- The objects of a store are entered into the indexes of a new schema.
use Rattle.std.proofs.Common.{◌≡◌, ◌≢◌, ◌⊎◌, ◌∙◌, ap, ap₂, sym, refl, subst, inl, inr, ℕ, ◌==◌, Bool, true, false, true≢false, cond, not, ◌||◌, List, [], ◌∷◌, map, filter, None, Some, nat_eq, nat_cmp, arith}
use Rattle.std.specs.List.{list_any}
use Rattle.std.specs.Ordering.{is_eq, is_lt}
use Rattle.std.specs.Cmp.{tied_itself}
use Rattle.std.specs.FinMap.Entries.{below_all, is_sorted}
use Rattle.std.proofs.lemmas.Bool.{and_parts, both_ways, eqb-true, eq-eqb, not-true}
use Rattle.oc_model.specs.declared.value.Atom.{Atom}
use Rattle.oc_model.specs.declared.value.Base.{Base}
use Rattle.oc_model.specs.declared.value.Rec.{Rec}
use Rattle.oc_model.specs.declared.schema.FieldDef.{FieldDef}
use Rattle.oc_model.specs.Candidates.{index_of, has_field, single}
use Rattle.oc_model.specs.Lengths.{indexed_fields}
use Rattle.oc_model.specs.Lists.{placed, sorted, IsOneOf}
use Rattle.oc_model.specs.Maps.{Map, at, with_at, is_in}
use Rattle.oc_model.specs.Schemas.{Schema, fields_of}
use Rattle.oc_model.specs.SchemaRules.{all_fields, keeps_rules}
use Rattle.oc_model.specs.StoreRules.{KeepsStore}
use Rattle.oc_model.specs.Stores.{Store, base_of, value_in}
use Rattle.oc_model.proofs.Elements.{any_passes, or_right, from_filter, from_map, is_among, some_passes, to_filter, to_map}
use Rattle.oc_model.proofs.Inherited.{apart_same, current_in_all}
use Rattle.oc_model.proofs.Rules.{rules_kept}
use Rattle.oc_chunks.specs.Ascending.{entered, has}
use Rattle.oc_chunks.specs.Chunks.{joined}
use Rattle.oc_index.specs.Fields.{FieldList}
use Rattle.oc_index.specs.Indexed.{field_cmp, StoreLists}
use Rattle.oc_index.specs.declared.items.IndexItem.{IndexItem}
use Rattle.oc_index.specs.Items.{index_cmp}
use Rattle.oc_index.specs.Totals.{index_total}
use Rattle.oc_catalog.specs.Catalogs.{indexed_ids}
use Rattle.oc_lists.specs.Following.{empty_index, has_index, newly_indexed, with_started, with_these, AreAlike, AreEntering, MayFollow}
use Rattle.oc_lists.specs.Lists.{bases_in, entries_of, key_in, HasIndexes, HasLists}
use Rattle.oc_lists.specs.Refiling.{indexed_in, refiled, rekeyed, Refiles}
use Rattle.oc_lists.proofs.Entries.{found_put, is_list, item, list_of, one_comes, passes, still_sorted, store_with}
use Rattle.oc_index.proofs.Ordered.{lt_of}
use Rattle.oc_lists.proofs.FieldWise.{fields_member}
use Rattle.oc_lists.proofs.Refiled.{refiled_off}
use Rattle.oc_lists.proofs.IndexedIds.{in_sorted}
use Rattle.oc_lists.proofs.OneRecord.{found_first, found_later, items, none_more, none_there, without_put}

-- ---- one field under two schemas

pub absurd_below : (a b : ℕ) → is_lt (nat_cmp a b) ≡ true → a ≡ b → ⊥
absurd_below a b less same = absurd (omega (arith, lt_of a b less, same))

-- what stands in a sorted map is found under its key
found_under : {V : Type 0} (n : ℕ) (r : V) (m : Map V) → is_sorted nat_cmp m ≡ true → IsOneOf (n, r) m → at m n ≡ Some r
found_under n r [] up one = absurd one
found_under n r (e ∷ m) up (inl same) = subst (λ (d : ℕ × _). at (d ∷ m) n ≡ Some r) same (found_first n (n, r) m refl)
found_under n r (e ∷ m) up (inr one) =
    let parts = and_parts (below_all nat_cmp e.0 m) (is_sorted nat_cmp m) up in
    found_later n e m (above e.0 m parts.0 one) ∙ found_under n r m parts.1 one
  where
    above : (k : ℕ) (l : Map _) → below_all nat_cmp k l ≡ true → IsOneOf (n, r) l → n ≢ k
    above k [] below one = absurd one
    above k (d ∷ l) below (inl same) = λ e. absurd (absurd_below k d.0 (and_parts (is_lt (nat_cmp k d.0)) (below_all nat_cmp k l) below).0 (sym e ∙ ap (λ (p : ℕ × _). p.0) same))
    above k (d ∷ l) below (inr one) = above k l (and_parts (is_lt (nat_cmp k d.0)) (below_all nat_cmp k l) below).1 one

-- the same entries of the records whose classes have both fields or none of them
same_items : (s t : Store) (f g : FieldDef) (m : Map Rec) → f.id ≡ g.id → f.kind ≡ g.kind → ((e : ℕ × Rec) → IsOneOf e m → passes s f e ≡ passes t g e) → map (item s f) (filter (passes s f) m) ≡ map (item t g) (filter (passes t g) m)
same_items s t f g [] id kind each = refl
same_items s t f g (e ∷ m) id kind each =
    ap (λ b. map (item s f) (cond b (e ∷ filter (passes s f) m) (filter (passes s f) m))) (each e (inl refl)) ∙ of_test (passes t g e) (same_items s t f g m id kind (λ d one. each d (inr one)))
  where
    of_test : (b : Bool) → map (item s f) (filter (passes s f) m) ≡ map (item t g) (filter (passes t g) m)
        → map (item s f) (cond b (e ∷ filter (passes s f) m) (filter (passes s f) m)) ≡ map (item t g) (cond b (e ∷ filter (passes t g) m) (filter (passes t g) m))
    of_test true rest = ap₂ (λ (k : Atom) (l : List IndexItem). record { key = k; number = e.0 } ∷ l) (ap₂ (λ i k. single (value_in (e.1).entries i k)) id kind) rest
    of_test false rest = rest

-- a field that both schemas index has the same entries
pub entries_kept : (s : Store) (new : Schema) (f g : FieldDef) → KeepsStore s → f.id ≡ g.id → AreAlike s.schema new f g → entries_of s f ≡ entries_of (record { schema = new; next = s.next; records = s.records }) g
entries_kept s new f g keeps id alike =
    let t : Store = record { schema = new; next = s.next; records = s.records } in
    is_list s f s.next s.records
    ∙ ap (sorted index_cmp) (same_items s t f g s.records id alike.kind (λ e one. alike.classes (e.1).class (keeps.suit e.0 e.1 (found_under e.0 e.1 s.records keeps.by_number one)).class))
    ∙ sym (is_list t g s.next s.records)

-- ---- where the indexes come from

-- an index is one that stood there, or was started
from_started : (es : List (ℕ × Base)) (is : List (ℕ × FieldList)) (i : ℕ × FieldList) → IsOneOf i (with_started es is) → IsOneOf i is ⊎ ((e : ℕ × Base) × IsOneOf e es × (i ≡ (e.0, empty_index e.1)))
from_started [] is i one = inl one
from_started (e ∷ es) is i one = elim (from_started es (placed field_cmp (e.0, empty_index e.1) is) i one) [
  | inl before ↦ elim (from_placed (e.0, empty_index e.1) is i before) [ inl same ↦ inr (e, inl refl, same) | inr there ↦ inl there ]
  | inr later ↦ inr (later.0, inr later.1, later.2)
]
  where
    from_placed : (x : ℕ × FieldList) (is : List (ℕ × FieldList)) (i : ℕ × FieldList) → IsOneOf i (placed field_cmp x is) → (i ≡ x) ⊎ IsOneOf i is
    from_placed x [] i one = elim one [ inl same ↦ inl same | inr none ↦ absurd none ]
    from_placed x (y ∷ is) i one =
        (elim (is_lt (field_cmp y x)) as (λ b. IsOneOf i (cond b (y ∷ placed field_cmp x is) (x ∷ y ∷ is)) → (i ≡ x) ⊎ IsOneOf i (y ∷ is)) [
          | true ↦ λ one. elim one [ inl same ↦ inr (inl same) | inr rest ↦ elim (from_placed x is i rest) [ inl same ↦ inl same | inr there ↦ inr (inr there) ] ]
          | false ↦ λ one. elim one [ inl same ↦ inl same | inr rest ↦ inr rest ]
        ]) one

-- the field that a schema has an index for
pub indexed_one : (s : Schema) (id : ℕ) → has_index s id ≡ true → (f : FieldDef) × IsOneOf f (indexed_fields s) × (id ≡ f.id)
indexed_one s id it =
    let n = some_passes (nat_eq id) (indexed_ids s.classes) it in
    let f = from_map (λ (g : FieldDef). g.id) n.0 (indexed_fields s) n.1 in
    (f.0, f.1, eqb-true id n.0 n.2 ∙ f.2)

-- ---- the beginning and the end

pub entering_begins : (l m : StoreLists) (s : Store) (new : Schema) → KeepsStore s → MayFollow s.schema new → HasIndexes s.schema l → HasLists l s → m.extents ≡ l.extents
    → m.fields ≡ with_started (newly_indexed s.schema new) (with_these new l.fields) → AreEntering m s new []
unfolding index_of
entering_begins l m s new keeps may has lists extents fields = record {
  extents = ap (λ e. joined e.chunks) extents ∙ lists.extents;
  kept = λ f one it i there. elim (from_started (newly_indexed s.schema new) (with_these new l.fields) (f.id, i) (subst (IsOneOf (f.id, i)) fields there)) [
    | inl before ↦
        let g = indexed_one s.schema f.id it in
        lists.indexes g.0 g.1 i (subst (λ id. IsOneOf (id, i) l.fields) g.2 (from_filter (λ (j : ℕ × FieldList). has_index new j.0) (f.id, i) l.fields before).0)
        ∙ entries_kept s new g.0 f keeps (sym g.2) (may.indexed g.0 f g.1 one (sym g.2))
    | inr started ↦
        let e = from_filter (λ (e : ℕ × Base). not (has_index s.schema e.0)) started.0 (bases_in new) started.1 in
        absurd (true≢false (sym e.1 ∙ ap not (ap (has_index s.schema) (sym (ap (λ (j : ℕ × FieldList). j.0) started.2)) ∙ it)))
  ];
  entered = λ f one off i there. elim (from_started (newly_indexed s.schema new) (with_these new l.fields) (f.id, i) (subst (IsOneOf (f.id, i)) fields there)) [
    | inl before ↦
        let stood = (from_filter (λ (j : ℕ × FieldList). has_index new j.0) (f.id, i) l.fields before).0 in
        absurd (true≢false (sym (sym (in_sorted f.id (indexed_ids s.schema.classes)) ∙ ap (λ ns. is_in ns f.id) (sym has.ids) ∙ is_among f.id (map (λ (j : ℕ × FieldList). j.0) l.fields) (to_map (λ (j : ℕ × FieldList). j.0) (f.id, i) l.fields stood)) ∙ off))
    | inr started ↦ ap (λ (j : ℕ × FieldList). joined (j.1).chunks) started.2
  ];
}

pub entering_ends : (l : StoreLists) (s : Store) (new : Schema) → AreEntering l s new s.records → HasLists l (record { schema = new; next = s.next; records = s.records })
entering_ends l s new a = record {
  extents = a.extents;
  indexes = λ f one i there. (elim (has_index s.schema f.id) as (λ b. has_index s.schema f.id ≡ b → joined i.chunks ≡ entries_of (record { schema = new; next = s.next; records = s.records }) f) [
    | true ↦ λ it. a.kept f one it i there
    | false ↦ λ off. a.entered f one off i there
  ]) refl;
}

-- ---- one object more

-- what is placed is there
placed_there : (p : IndexItem → Bool) (x : IndexItem) (es : List IndexItem) → p x ≡ true → list_any p (placed index_cmp x es) ≡ true
placed_there p x [] it = ap (λ b. b || false) it
placed_there p x (e ∷ es) it = elim (is_lt (index_cmp e x)) as (λ b. list_any p (cond b (e ∷ placed index_cmp x es) (x ∷ e ∷ es)) ≡ true) [
  | true ↦ or_right (p e) (list_any p (placed index_cmp x es)) (placed_there p x es it)
  | false ↦ ap (λ b. b || list_any p (e ∷ es)) it
]

-- what is entered once more changes nothing
entered_again : (x : IndexItem) (es : List IndexItem) → entered index_cmp x (entered index_cmp x es) ≡ entered index_cmp x es
entered_again x es = of_test (has index_cmp x es) refl
  where
    there : IndexItem → Bool
    there y = is_eq (index_cmp y x)

    of_test : (b : Bool) → has index_cmp x es ≡ b → entered index_cmp x (cond b es (placed index_cmp x es)) ≡ cond b es (placed index_cmp x es)
    of_test true it = ap (λ b. cond b es (placed index_cmp x es)) it
    of_test false off = ap (λ b. cond b (placed index_cmp x es) (placed index_cmp x (placed index_cmp x es))) (placed_there there x es (ap is_eq (tied_itself index_total x)))

module _ (n : ℕ) (r : Rec) (f : FieldDef) where
  enters : List IndexItem → List IndexItem
  enters = entered index_cmp (record { key = key_in f r; number = n })

  -- no other field has its id
  Alone : List FieldDef → Type 0
  Alone fs = (g : FieldDef) → IsOneOf g fs → g.id ≡ f.id → g ≡ f

  once_more : (fs : List FieldDef) (es : List IndexItem) → Alone fs → refiled n None (Some r) fs f.id (enters es) ≡ enters es
  unfolding enters Alone
  once_more [] es alone = refl
  once_more (g ∷ fs) es alone =
      (elim (g.id == f.id) as (λ b. (g.id == f.id) ≡ b → refiled n None (Some r) fs f.id (cond b (rekeyed n None (Some (key_in g r)) (enters es)) (enters es)) ≡ enters es) [
        | true ↦ λ same.
            ap (λ (h : FieldDef). refiled n None (Some r) fs f.id (entered index_cmp (record { key = key_in h r; number = n }) (enters es))) (alone g (inl refl) (eqb-true g.id f.id same))
            ∙ ap (refiled n None (Some r) fs f.id) (entered_again (record { key = key_in f r; number = n }) es)
            ∙ once_more fs es (λ h one. alone h (inr one))
        | false ↦ λ off. once_more fs es (λ h one. alone h (inr one))
      ]) refl

  refiled_on : (fs : List FieldDef) (es : List IndexItem) → Alone fs → IsOneOf f fs → refiled n None (Some r) fs f.id es ≡ enters es
  unfolding enters Alone
  refiled_on [] es alone one = absurd one
  refiled_on (g ∷ fs) es alone one =
      (elim (g.id == f.id) as (λ b. (g.id == f.id) ≡ b → refiled n None (Some r) fs f.id (cond b (rekeyed n None (Some (key_in g r)) es) es) ≡ enters es) [
        | true ↦ λ same.
            ap (λ (h : FieldDef). refiled n None (Some r) fs f.id (entered index_cmp (record { key = key_in h r; number = n }) es)) (alone g (inl refl) (eqb-true g.id f.id same))
            ∙ once_more fs es (λ h one. alone h (inr one))
        | false ↦ λ off. elim one [
          | inl same ↦ absurd (true≢false (sym (eq-eqb g.id f.id (ap (λ (h : FieldDef). h.id) (sym same))) ∙ off))
          | inr later ↦ refiled_on fs es (λ h one. alone h (inr one)) later
        ]
      ]) refl

-- the entries with one object more
comes_new : (t : Store) (f : FieldDef) → is_sorted nat_cmp t.records ≡ true → (n : ℕ) (r : Rec) → at t.records n ≡ None → has_field t.schema f r.class ≡ true → entries_of (store_with n r t) f ≡ entered index_cmp (record { key = key_in f r; number = n }) (entries_of t f)
comes_new t f up n r none had =
    is_list t f t.next (with_at t.records n r)
    ∙ one_comes t f n r t.records up had
    ∙ ap (λ m. entered index_cmp (item t f (n, r)) (list_of t f m)) (none_there n t.records none)
    ∙ ap (entered index_cmp (item t f (n, r))) (sym (is_list t f t.next t.records))

comes_off : (t : Store) (f : FieldDef) → is_sorted nat_cmp t.records ≡ true → (n : ℕ) (r : Rec) → at t.records n ≡ None → has_field t.schema f r.class ≡ false → entries_of (store_with n r t) f ≡ entries_of t f
comes_off t f up n r none off =
    is_list t f t.next (with_at t.records n r)
    ∙ ap (sorted index_cmp) (none_more index_cmp index_total (passes t f) (item t f) n r (with_at t.records n r) off (still_sorted n r t.records up) (found_put n r t.records) ∙ ap (items index_cmp index_total (passes t f) (item t f)) (without_put n r t.records ∙ none_there n t.records none))
    ∙ sym (is_list t f t.next t.records)

module _ (old new : Schema) (keeps : keeps_rules new ≡ true) (class : ℕ) where
  abbrev chosen : List FieldDef
  chosen = filter (λ (f : FieldDef). is_in (map (λ (e : ℕ × Base). e.0) (newly_indexed old new)) f.id) (indexed_in new class)

  from_chosen : (g : FieldDef) → IsOneOf g chosen → IsOneOf g (fields_of new class) × (has_index old g.id ≡ false)
  from_chosen g one =
      let a = from_filter (λ (f : FieldDef). is_in (map (λ (e : ℕ × Base). e.0) (newly_indexed old new)) f.id) g (indexed_in new class) one in
      let n = some_passes (nat_eq g.id) (map (λ (e : ℕ × Base). e.0) (newly_indexed old new)) a.1 in
      let e = from_map (λ (e : ℕ × Base). e.0) n.0 (newly_indexed old new) n.1 in
      let off = from_filter (λ (e : ℕ × Base). not (has_index old e.0)) e.0 (bases_in new) e.1 in
      ((from_filter (λ (f : FieldDef). f.indexed) g (fields_of new class) a.0).0, ap (has_index old) (eqb-true g.id n.0 n.2 ∙ e.2) ∙ not-true (has_index old (e.0).0) off.1)

  module _ (f : FieldDef) (one : IsOneOf f (indexed_fields new)) where
    in_all : IsOneOf f (all_fields new) × (f.indexed ≡ true)
    in_all = from_filter (λ (g : FieldDef). g.indexed) f (all_fields new) one

    same_field : (g : FieldDef) → IsOneOf g (fields_of new class) → g.id ≡ f.id → g ≡ f
    same_field g there same = apart_same g f (all_fields new) (rules_kept new keeps).ids (current_in_all g new class there) in_all.0 same

    alone : (g : FieldDef) → IsOneOf g chosen → g.id ≡ f.id → g ≡ f
    alone g there = same_field g (from_chosen g there).0

    -- the field is among them if it is newly indexed and the class has it
    pub is_chosen : has_index old f.id ≡ false → has_field new f class ≡ true → IsOneOf f chosen
    is_chosen off had =
        let g = some_passes (λ (g : FieldDef). g.id == f.id) (fields_of new class) had in
        let is = same_field g.0 g.1 (eqb-true (g.0).id f.id g.2) in
        let based : IsOneOf (f.id, base_of f.kind) (newly_indexed old new) = to_filter (λ (e : ℕ × Base). not (has_index old e.0)) (f.id, base_of f.kind) (bases_in new) (to_map (λ (h : FieldDef). (h.id, base_of h.kind)) f (indexed_fields new) one) (ap not off) in
        to_filter (λ (h : FieldDef). is_in (map (λ (e : ℕ × Base). e.0) (newly_indexed old new)) h.id) f (indexed_in new class)
        (to_filter (λ (h : FieldDef). h.indexed) f (fields_of new class) (subst (λ h. IsOneOf h (fields_of new class)) is g.1) in_all.1)
        (is_among f.id (map (λ (e : ℕ × Base). e.0) (newly_indexed old new)) (to_map (λ (e : ℕ × Base). e.0) (f.id, base_of f.kind) (newly_indexed old new) based))

    not_chosen : (has_index old f.id ≡ true) ⊎ (has_field new f class ≡ false) → (g : FieldDef) → IsOneOf g chosen → g.id ≡ f.id → ⊥
    not_chosen (inl it) g one same = both_ways (has_index old g.id) (from_chosen g one).1 (ap (has_index old) same ∙ it)
    not_chosen (inr none) g one same = both_ways _ none (any_passes (λ (h : FieldDef). h.id == f.id) g (fields_of new class) (from_chosen g one).0 (eq-eqb g.id f.id same))

-- an object is entered into the newly indexed fields
pub entering_goes_on : (l m : StoreLists) (s : Store) (new : Schema) (done : Map Rec) (n : ℕ) (r : Rec) → keeps_rules new ≡ true → AreEntering l s new done → is_sorted nat_cmp done ≡ true → at done n ≡ None
    → m.extents ≡ l.extents → Refiles (refiled n None (Some r) (filter (λ f. is_in (map (λ e. e.0) (newly_indexed s.schema new)) f.id) (indexed_in new r.class))) l m → AreEntering m s new (with_at done n r)
unfolding Alone enters
entering_goes_on l m s new done n r keeps a up none extents refiles = record {
  extents = ap (λ e. joined e.chunks) extents ∙ a.extents;
  kept = λ f one it j there.
      let i = was f j there in
      i.2 ∙ refiled_off n None (Some r) fs f.id (not_chosen s.schema new keeps r.class f one (inl it)) (joined (i.0).chunks) ∙ a.kept f one it i.0 i.1;
  entered = λ f one off j there.
      let i = was f j there in
      i.2 ∙ (elim (has_field new f r.class) as (λ b. has_field new f r.class ≡ b → refiled n None (Some r) fs f.id (joined (i.0).chunks) ≡ entries_of (store_with n r t) f) [
        | true ↦ λ had.
            refiled_on n r f fs (joined (i.0).chunks) (alone s.schema new keeps r.class f one) (is_chosen s.schema new keeps r.class f one off had)
            ∙ ap (entered index_cmp (record { key = key_in f r; number = n })) (a.entered f one off i.0 i.1)
            ∙ sym (comes_new t f up n r none had)
        | false ↦ λ without.
            refiled_off n None (Some r) fs f.id (not_chosen s.schema new keeps r.class f one (inr without)) (joined (i.0).chunks)
            ∙ a.entered f one off i.0 i.1
            ∙ sym (comes_off t f up n r none without)
      ]) refl;
}
  where
    t : Store
    t = record { schema = new; next = s.next; records = done }

    fs : List FieldDef
    fs = filter (λ (f : FieldDef). is_in (map (λ (e : ℕ × Base). e.0) (newly_indexed s.schema new)) f.id) (indexed_in new r.class)

    was : (f : FieldDef) (j : FieldList) → IsOneOf (f.id, j) m.fields → (i : FieldList) × IsOneOf (f.id, i) l.fields × (joined j.chunks ≡ refiled n None (Some r) fs f.id (joined i.chunks))
    was f j there = fields_member (λ id i j. joined j.chunks ≡ refiled n None (Some r) fs id (joined i.chunks)) l.fields m.fields refiles f.id j there
