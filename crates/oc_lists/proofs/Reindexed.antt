-- The objects that are entered into the newly indexed fields: those whose class has one.
use Rattle.std.proofs.Common.{◌≡◌, ◌≢◌, ◌∙◌, ◌<◌, ◌+◌, ap, sym, refl, subst, inl, inr, ℕ, zero, suc, ◌==◌, Bool, true, false, true≢false, cond, not, ◌&&◌, ◌||◌, List, [], ◌∷◌, ◌++◌, length, map, filter, take, get_or, append-nil, None, Some, nat_lt, nat_cmp, arith}
use Rattle.std.specs.Prelude.{is_some}
use Rattle.std.specs.List.{list_any}
use Rattle.std.specs.Cmp.{nat_cmp_total}
use Rattle.std.specs.Ordering.{is_lt}
use Rattle.std.specs.FinMap.{is_sorted}
use Rattle.std.specs.FinMap.Entries.{below_all, find-where_key, is_sorted-where_key, same_entries}
use Rattle.std.proofs.lemmas.Bool.{and_from, and_parts, eqb-true, eq-eqb, lt-ltb, ne_eqb}
use Rattle.std.proofs.lemmas.List.{length-map}
use Rattle.std.proofs.lemmas.Bool.Decides.{nat_tests}
use Rattle.std.proofs.lemmas.Map.Lookups.{exact_unsigned}
use Rattle.oc_model.specs.declared.value.Base.{Base}
use Rattle.oc_model.specs.declared.value.Rec.{Rec}
use Rattle.oc_model.specs.declared.schema.FieldDef.{FieldDef}
use Rattle.oc_model.specs.Candidates.{has_field}
use Rattle.oc_model.specs.Lengths.{indexed_fields}
use Rattle.oc_model.specs.Lists.{sorted, IsOneOf}
use Rattle.oc_model.specs.Maps.{Map, at, with_at, is_in}
use Rattle.oc_model.specs.Schemas.{Schema, class_at, fields_of}
use Rattle.oc_model.specs.SchemaRules.{are_apart, keeps_rules}
use Rattle.oc_model.specs.Stores.{Store}
use Rattle.oc_model.proofs.Elements.{any_passes, from_filter, is_among, or_right, to_filter, to_map}
use Rattle.oc_model.proofs.MapLaws.{with_at_alone}
use Rattle.oc_model.proofs.Reaching.{of_true}
use Rattle.oc_index.specs.declared.items.ExtentItem.{ExtentItem}
use Rattle.oc_index.specs.Indexed.{StoreLists}
use Rattle.oc_index.specs.Items.{index_cmp}
use Rattle.oc_lists.specs.Following.{has_index, has_one_of, is_reindexed, newly_indexed, records_of, reindexed, AreEntering}
use Rattle.oc_lists.specs.Lists.{entries_of, extents_of, HasLists}
use Rattle.oc_lists.specs.Refiling.{indexed_in}
use Rattle.oc_lists.proofs.ClassFields.{none_of}
use Rattle.oc_lists.proofs.Entering.{absurd_below, entering_ends, is_chosen}
use Rattle.oc_lists.proofs.Entries.{is_list, is_true, item, passes}
use Rattle.oc_lists.proofs.Suited.{slice_small}

-- ---- the classes

pub in_more : (ns : List ℕ) (n k : ℕ) → is_in (ns ++ n ∷ []) k ≡ (is_in ns k || k == n)
in_more [] n k = elim (k == n) as (λ b. (b || false) ≡ b) [ true ↦ refl | false ↦ refl ]
in_more (m ∷ ns) n k = ap (λ b. k == m || b) (in_more ns n k) ∙ assoc (k == m) (is_in ns k) (k == n)
  where
    assoc : (a b c : Bool) → (a || (b || c)) ≡ ((a || b) || c)
    assoc true b c = refl
    assoc false b c = refl

-- none is of number 0
pub classes_first : (ids : List ℕ) (s : Schema) (c : ℕ) → false ≡ (nat_lt c 1 && has_one_of ids s c)
unfolding fields_of
classes_first ids s zero = refl
classes_first ids s (suc c) = sym (ap (λ b. b && has_one_of ids s (suc c)) (above c))
  where
    above : (n : ℕ) → nat_lt (suc n) 1 ≡ false
    above n = grind (arith, nat_tests)

-- some pass where some are left
some_left : {X : Type 0} (p : X → Bool) (xs : List X) → not (length (filter p xs) == 0) ≡ list_any p xs
some_left p [] = refl
some_left p (x ∷ xs) = elim (p x) as (λ b. not (length (cond b (x ∷ filter p xs) (filter p xs)) == 0) ≡ (b || list_any p xs)) [
  | true ↦ ap not (ne_eqb (suc (length (filter p xs))) 0 (λ e. absurd (omega (arith, e))))
  | false ↦ some_left p xs
]

pub left_there : {X Y : Type 0} (f : Y → X) (ys : List Y) (p : X → Bool) (xs : List X) → map f ys ≡ filter p xs → not (length ys == 0) ≡ list_any p xs
left_there f ys p xs same = ap (λ n. not (n == 0)) (sym (length-map ys f) ∙ ap length same) ∙ some_left p xs

below_same : (c n : ℕ) → (c == n) ≡ false → nat_lt c n ≡ nat_lt c (n + 1)
below_same c n e = grind (arith, nat_tests, e)

below_next : (n : ℕ) → nat_lt n (n + 1) ≡ true
below_next n = grind (arith, nat_tests)

off_or : (b : Bool) → (b || false) ≡ b
off_or true = refl
off_or false = refl

on_or : (b : Bool) → (b || true) ≡ true
on_or true = refl
on_or false = refl

off_and : (b : Bool) → (b && false) ≡ false
off_and true = refl
off_and false = refl

module _ (ids : List ℕ) (s : Schema) where
  -- one class more
  pub classes_more : (ns : List ℕ) (n : ℕ) (b : Bool) → b ≡ has_one_of ids s n → ((c : ℕ) → is_in ns c ≡ (nat_lt c n && has_one_of ids s c)) → (ms : List ℕ) → ms ≡ ns ++ cond b (n ∷ []) [] → (c : ℕ) → is_in ms c ≡ (nat_lt c (n + 1) && has_one_of ids s c)
  classes_more ns n b is so_far ms grown c =
      ap (λ l. is_in l c) grown
      ∙ (elim b as (λ t. t ≡ has_one_of ids s n → is_in (ns ++ cond t (n ∷ []) []) c ≡ (nat_lt c (n + 1) && has_one_of ids s c)) [
        | true ↦ λ it. in_more ns n c ∙ ap (λ x. x || c == n) (so_far c) ∙ with_one (has_one_of ids s c) (λ same. ap (has_one_of ids s) same ∙ sym it)
        | false ↦ λ off. ap (λ l. is_in l c) (append-nil ns) ∙ so_far c ∙ without (has_one_of ids s c) (λ same. ap (has_one_of ids s) same ∙ sym off)
      ]) is
    where
      with_one : (h : Bool) → (c ≡ n → h ≡ true) → ((nat_lt c n && h) || c == n) ≡ (nat_lt c (n + 1) && h)
      with_one h same = (elim (c == n) as (λ t. (c == n) ≡ t → ((nat_lt c n && h) || t) ≡ (nat_lt c (n + 1) && h)) [
        | true ↦ λ e.
            let k : c ≡ n = eqb-true c n e in
            on_or (nat_lt c n && h) ∙ sym (ap (λ x. x && h) (ap (λ m. nat_lt m (n + 1)) k ∙ below_next n) ∙ same k)
        | false ↦ λ e. off_or (nat_lt c n && h) ∙ ap (λ x. x && h) (below_same c n e)
      ]) refl

      without : (h : Bool) → (c ≡ n → h ≡ false) → (nat_lt c n && h) ≡ (nat_lt c (n + 1) && h)
      without h off = (elim (c == n) as (λ t. (c == n) ≡ t → (nat_lt c n && h) ≡ (nat_lt c (n + 1) && h)) [
        | true ↦ λ e. let none = off (eqb-true c n e) in ap (λ x. nat_lt c n && x) none ∙ off_and (nat_lt c n) ∙ sym (ap (λ x. nat_lt c (n + 1) && x) none ∙ off_and (nat_lt c (n + 1)))
        | false ↦ λ e. ap (λ x. x && h) (below_same c n e)
      ]) refl

  -- those of the schema are all
  pub classes_all : keeps_rules s ≡ true → (c : ℕ) → (nat_lt c (length s.classes + 1) && has_one_of ids s c) ≡ has_one_of ids s c
  classes_all keeps c = (elim (class_at s c) as (λ o. class_at s c ≡ o → (nat_lt c (length s.classes + 1) && has_one_of ids s c) ≡ has_one_of ids s c) [
    | None ↦ λ e.
        let none : has_one_of ids s c ≡ false = ap (λ fs. list_any (λ (f : FieldDef). is_in ids f.id) (filter (λ (f : FieldDef). f.indexed) fs)) (sym (none_of s c keeps e)) in
        ap (λ x. nat_lt c (length s.classes + 1) && x) none ∙ off_and (nat_lt c (length s.classes + 1)) ∙ sym none
    | Some d ↦ λ e. ap (λ x. x && has_one_of ids s c) (lt-ltb c (length s.classes + 1) (small c (ap is_some e)))
  ]) refl
    where
      small : (n : ℕ) → is_some (class_at s n) ≡ true → n < length s.classes + 1
      small zero h = omega arith
      small (suc n) h = let lt = slice_small s.classes n h in omega arith

-- ---- numbers that are apart

not_on : (a b : Bool) → (not a && b) ≡ true → (a ≡ false) × (b ≡ true)
not_on false true h = (refl, refl)
not_on false false h = absurd (true≢false (sym h))
not_on true b h = absurd (true≢false (sym h))

-- a number isn't among those before it
pub apart_before : (ns : List ℕ) (i d n : ℕ) → i < length ns → get_or ns i d ≡ n → are_apart ns ≡ true → is_in (take i ns) n ≡ false
apart_before [] i d n lt here apart = absurd (omega arith)
apart_before (m ∷ ns) zero d n lt here apart = refl
apart_before (m ∷ ns) (suc i) d n lt here apart =
    let parts = not_on (is_in ns m) (are_apart ns) apart in
    ap (λ b. b || is_in (take i ns) n) (other parts.0) ∙ apart_before ns i d n (omega arith) here parts.1
  where
    among : (ms : List ℕ) (k : ℕ) → k < length ms → get_or ms k d ≡ n → is_in ms n ≡ true
    among [] k lt is = absurd (omega arith)
    among (x ∷ ms) zero lt is = ap (λ b. b || is_in ms n) (eq-eqb n x (sym is))
    among (x ∷ ms) (suc k) lt is = or_right (n == x) (is_in ms n) (among ms k (omega arith) is)

    other : is_in ns m ≡ false → (n == m) ≡ false
    other off = (elim (n == m) as (λ b. (n == m) ≡ b → (n == m) ≡ false) [
      | true ↦ λ e. absurd (true≢false (sym (ap (is_in ns) (sym (eqb-true n m e)) ∙ among ns i (omega arith) here) ∙ off))
      | false ↦ λ e. e
    ]) refl

-- the keys of some of a map's entries
key_off : {V : Type 0} (k : ℕ) (q : ℕ × V → Bool) (m : Map V) → below_all nat_cmp k m ≡ true → is_in (map (λ (e : ℕ × V). e.0) (filter q m)) k ≡ false
key_off k q [] below = refl
key_off k q (e ∷ m) below =
    let parts = and_parts (is_lt (nat_cmp k e.0)) (below_all nat_cmp k m) below in
    let rest = key_off k q m parts.1 in
    elim (q e) as (λ b. is_in (map (λ (d : ℕ × _). d.0) (cond b (e ∷ filter q m) (filter q m))) k ≡ false) [
      | true ↦ ap (λ b. b || is_in (map (λ (d : ℕ × _). d.0) (filter q m)) k) (no (k == e.0) (λ same. absurd_below k e.0 parts.0 (eqb-true k e.0 same))) ∙ rest
      | false ↦ rest
    ]
  where
    no : (b : Bool) → (b ≡ true → ⊥) → b ≡ false
    no true never = absurd (never refl)
    no false never = refl

pub keys_apart : {V : Type 0} (q : ℕ × V → Bool) (m : Map V) → is_sorted nat_cmp m ≡ true → are_apart (map (λ (e : ℕ × V). e.0) (filter q m)) ≡ true
keys_apart q [] up = refl
keys_apart q (e ∷ m) up =
    let parts = and_parts (below_all nat_cmp e.0 m) (is_sorted nat_cmp m) up in
    elim (q e) as (λ b. are_apart (map (λ (d : ℕ × _). d.0) (cond b (e ∷ filter q m) (filter q m))) ≡ true) [
      | true ↦ and_from _ _ (ap not (key_off e.0 q m parts.0)) (keys_apart q m parts.1)
      | false ↦ keys_apart q m parts.1
    ]

-- ---- the records of some objects

pub records_sorted : (ns : List ℕ) (m : Map Rec) → is_sorted nat_cmp m ≡ true → is_sorted nat_cmp (records_of ns m) ≡ true
records_sorted ns m up = is_true _ (is_sorted-where_key nat_cmp (is_in ns) m (of_true _ up))

pub record_at : (ns : List ℕ) (m : Map Rec) (k : ℕ) → at (records_of ns m) k ≡ cond (is_in ns k) (at m k) None
record_at ns m k = find-where_key nat_cmp (is_in ns) k (λ x e. ap (is_in ns) (sym (exact_unsigned k x e))) m

pub no_records : (m : Map Rec) → records_of [] m ≡ []
no_records [] = refl
no_records (e ∷ m) = no_records m

-- one object more
module _ (ns : List ℕ) (n : ℕ) (m : Map Rec) (up : is_sorted nat_cmp m ≡ true) where
  elsewhere : (q : ℕ) → q ≢ n → at (records_of (ns ++ n ∷ []) m) q ≡ at (records_of ns m) q
  elsewhere q other = record_at (ns ++ n ∷ []) m q ∙ ap (λ b. cond b (at m q) None) (in_more ns n q ∙ ap (λ b. is_in ns q || b) (no (q == n) (λ e. other (eqb-true q n e))) ∙ off_or (is_in ns q)) ∙ sym (record_at ns m q)
    where
      no : (b : Bool) → (b ≡ true → ⊥) → b ≡ false
      no true never = absurd (never refl)
      no false never = refl

  here : at (records_of (ns ++ n ∷ []) m) n ≡ at m n
  here = record_at (ns ++ n ∷ []) m n ∙ ap (λ b. cond b (at m n) None) (in_more ns n n ∙ ap (λ b. is_in ns n || b) (eq-eqb n n refl) ∙ on_or (is_in ns n))

  pub record_more : (r : Rec) → at m n ≡ Some r → records_of (ns ++ n ∷ []) m ≡ with_at (records_of ns m) n r
  record_more r found = with_at_alone (records_of ns m) (records_of (ns ++ n ∷ []) m) n r (records_sorted ns m up) (records_sorted (ns ++ n ∷ []) m up) (here ∙ found) elsewhere

  pub record_none : at m n ≡ None → records_of (ns ++ n ∷ []) m ≡ records_of ns m
  record_none none =
      same_entries nat_cmp nat_cmp_total exact_unsigned (records_of (ns ++ n ∷ []) m) (records_of ns m) (of_true _ (records_sorted (ns ++ n ∷ []) m up)) (of_true _ (records_sorted ns m up))
      (λ q. (elim (q == n) as (λ b. (q == n) ≡ b → at (records_of (ns ++ n ∷ []) m) q ≡ at (records_of ns m) q) [
        | true ↦ λ e. let k : q ≡ n = eqb-true q n e in
            subst (λ x. at (records_of (ns ++ n ∷ []) m) x ≡ at (records_of ns m) x) (sym k) (here ∙ none ∙ sym (record_at ns m n ∙ nothing (is_in ns n)))
        | false ↦ λ e. elsewhere q (λ same. true≢false (sym (eq-eqb q n same) ∙ e))
      ]) refl)
    where
      nothing : (b : Bool) → cond b (at m n) None ≡ None
      nothing true = none
      nothing false = refl

-- ---- all that have an index of a new field are entered

-- the numbers of the objects whose classes have one of the fields that were started
pub numbers_are : (old new : Schema) (ns : List ℕ) (started : List (ℕ × Base)) (es fs : List ExtentItem) → ns ≡ map (λ (e : ExtentItem). e.number) (filter (λ (e : ExtentItem). has_one_of (map (λ (f : ℕ × Base). f.0) started) new e.class) es)
    → started ≡ newly_indexed old new → es ≡ fs → ns ≡ reindexed old new fs
numbers_are old new ns started es fs are begun same = are ∙ (λ j. map (λ (e : ExtentItem). e.number) (filter (λ (e : ExtentItem). has_one_of (map (λ (f : ℕ × Base). f.0) (begun j)) new e.class) (same j)))

module _ (s : Store) (new : Schema) where
  abbrev has_new : ℕ × Rec → Bool
  has_new e = is_reindexed s.schema new (e.1).class

  numbers : (m : Map Rec) → map (λ (e : ExtentItem). e.number) (filter (λ (e : ExtentItem). is_reindexed s.schema new e.class) (map (λ (e : ℕ × Rec). record { number = e.0; class = (e.1).class }) m)) ≡ map (λ (e : ℕ × Rec). e.0) (filter has_new m)
  numbers [] = refl
  numbers (e ∷ m) = (elim (has_new e) as (λ b. map (λ (x : ExtentItem). x.number) (cond b (record { number = e.0; class = (e.1).class } ∷ filter (λ (x : ExtentItem). is_reindexed s.schema new x.class) (map (λ (d : ℕ × Rec). record { number = d.0; class = (d.1).class }) m)) (filter (λ (x : ExtentItem). is_reindexed s.schema new x.class) (map (λ (d : ℕ × Rec). record { number = d.0; class = (d.1).class }) m))) ≡ map (λ (d : ℕ × Rec). d.0) (cond b (e ∷ filter has_new m) (filter has_new m))) [
    | true ↦ ap (λ l. e.0 ∷ l) (numbers m)
    | false ↦ numbers m
  ])

  pub reindexed_apart : is_sorted nat_cmp s.records ≡ true → are_apart (reindexed s.schema new (extents_of s)) ≡ true
  reindexed_apart up = ap are_apart (numbers s.records) ∙ keys_apart has_new s.records up

  module _ (keeps : keeps_rules new ≡ true) (f : FieldDef) (one : IsOneOf f (indexed_fields new)) (off : has_index s.schema f.id ≡ false) where
    -- an object that has the field is among them
    named : (e : ℕ × Rec) → IsOneOf e s.records → has_field new f (e.1).class ≡ true → is_in (reindexed s.schema new (extents_of s)) e.0 ≡ true
    named e there had =
        let ids = map (λ (b : ℕ × Base). b.0) (newly_indexed s.schema new) in
        let chosen = from_filter (λ (g : FieldDef). is_in ids g.id) f (indexed_in new (e.1).class) (is_chosen s.schema new keeps (e.1).class f one off had) in
        let has : has_new e ≡ true = any_passes (λ (g : FieldDef). is_in ids g.id) f (indexed_in new (e.1).class) chosen.0 chosen.1 in
        ap (λ ns. is_in ns e.0) (numbers s.records) ∙ is_among e.0 (map (λ (d : ℕ × Rec). d.0) (filter has_new s.records)) (to_map (λ (d : ℕ × Rec). d.0) e (filter has_new s.records) (to_filter has_new e s.records there has))

    same_ones : (p q : ℕ × Rec → Bool) (m : Map Rec) → ((e : ℕ × Rec) → IsOneOf e m → p e ≡ true → q e ≡ true) → filter p (filter q m) ≡ filter p m
    same_ones p q [] each = refl
    same_ones p q (e ∷ m) each =
        let rest = same_ones p q m (λ d one. each d (inr one)) in
        (elim (q e) as (λ b. q e ≡ b → filter p (cond b (e ∷ filter q m) (filter q m)) ≡ cond (p e) (e ∷ filter p m) (filter p m)) [
          | true ↦ λ _. ap (λ l. cond (p e) (e ∷ l) l) rest
          | false ↦ λ out. rest ∙ sym (ap (λ b. cond b (e ∷ filter p m) (filter p m)) (no (p e) (λ it. true≢false (sym (each e (inl refl) it) ∙ out))))
        ]) refl
      where
        no : (b : Bool) → (b ≡ true → ⊥) → b ≡ false
        no true never = absurd (never refl)
        no false never = refl

    entries_all : entries_of (record { schema = new; next = s.next; records = records_of (reindexed s.schema new (extents_of s)) s.records }) f ≡ entries_of (record { schema = new; next = s.next; records = s.records }) f
    entries_all =
        let t : Store = record { schema = new; next = s.next; records = s.records } in
        let ns = reindexed s.schema new (extents_of s) in
        is_list t f s.next (records_of ns s.records)
        ∙ ap (λ m. sorted index_cmp (map (item t f) m)) (same_ones (passes t f) (λ (e : ℕ × Rec). is_in ns e.0) s.records named)
        ∙ sym (is_list t f s.next s.records)

  pub reindexed_all : keeps_rules new ≡ true → (l : StoreLists) → AreEntering l s new (records_of (reindexed s.schema new (extents_of s)) s.records) → HasLists l (record { schema = new; next = s.next; records = s.records })
  reindexed_all keeps l a = entering_ends l s new (record {
    extents = a.extents;
    kept = a.kept;
    entered = λ f one off i there. a.entered f one off i there ∙ entries_all keeps f one off;
  })
