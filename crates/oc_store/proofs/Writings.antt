-- Lists that are written chunk by chunk, and index by index.
use Rattle.std.proofs.Common.{◌≡◌, ◌∙◌, ap, sym, refl, subst, ℕ, zero, suc, ◌+◌, ◌<◌, ◌≤◌, Bool, true, false, cond, nat_eq, eq-eqb, List, [], ◌∷◌, ◌++◌, length, get_or, drop, take, map, filter, Option, Some, None, arith, append_assoc, add-one}
use Rattle.std.specs.Prelude.{is_some, find, IfSome}
use Rattle.std.specs.List.{cons_option, list_all}
use Rattle.std.specs.declared.cmp.Ordering.{Ordering}
use Rattle.std.specs.declared.cmp.Ordering.TheVariants.{Less}
use Rattle.std.proofs.lemmas.Bool.{and_parts}
use Rattle.std.proofs.lemmas.List.Folds.{list_all-append}
use Rattle.oc_model.specs.Spelling.{segment_bytes}
use Rattle.oc_model.proofs.Elements.{weaker}
use Rattle.std.specs.Option.{option_map, option_to_list}
use Rattle.std.proofs.Math.Seq.{drop-cons}
use Rattle.std.proofs.Math.ListN.{get_or-map as get_or-map'}
use Rattle.std.proofs.lemmas.List.{get_or-map, length-map, map-append, take_more}
use Rattle.std.proofs.lemmas.List.Elements.{filter-append}
use Rattle.std.proofs.lemmas.List.Sums.{sum_by-cons}
use Rattle.oc_model.specs.declared.value.Base.TheVariants as base
use Rattle.oc_model.specs.declared.value.Base.{Base}
use Rattle.oc_chunks.specs.declared.reading.ChunkView.{ChunkView}
use Rattle.oc_chunks.specs.Ascending.{Each, IsAscending}
use Rattle.oc_chunks.specs.Chunks.{Chunk, joined, numbers, IsSizedChunk}
use Rattle.oc_chunks.specs.Opening.{number_from, spare_behind, spare_of, written, IsList}
use Rattle.oc_chunks.specs.Reading.{chunk_of}
use Rattle.oc_chunks.proofs.Eaches.{each_append, each_at, pairs_front, pairs_rest}
use Rattle.oc_catalog.specs.declared.catalog.ListEntry.{ListEntry}
use Rattle.oc_index.specs.declared.items.ExtentItem.{ExtentItem}
use Rattle.oc_index.specs.declared.items.IndexItem.{IndexItem}
use Rattle.oc_index.specs.Fields.{FieldList}
use Rattle.oc_index.specs.Items.{index_cmp}
use Rattle.oc_segments.specs.Items.{extent_spelling, index_fits, index_spelling, index_stands}
use Rattle.oc_segments.specs.Telling.{index_writable}
use Rattle.oc_segments.specs.Segments.{AreEntries}
use Rattle.oc_index.specs.Indexed.{field_at, written_fields, StoreLists}
use Rattle.oc_slots.specs.declared.slot.SlotChange.{SlotChange}
use Rattle.oc_store.specs.Last.{field_segments, index_segments, list_segments, numberless, numberless_in, planned, planned_as, segment_of, spare_left, system_change, written_segments, Planned}
use Rattle.oc_store.specs.Numbering.{AreRising}
use Rattle.oc_store.specs.Outlines.{named}
use Rattle.oc_store.proofs.Plans.{left_of, planned_append, segments}
use Rattle.oc_store.proofs.SystemChanges.{unequal}

-- the element at the place, and those behind it
pub at_turn : {X : Type 0} (xs : List X) (i : ℕ) (x : X) → i < length xs → x ≡ get_or xs i x → drop i xs ≡ x ∷ drop (i + 1) xs
at_turn xs i x lt is = drop-cons xs i x lt ∙ (λ j. sym is j ∷ drop (sym (add-one i) j) xs)

pub of_some : {X : Type 0} (P : X → Type 0) (o : Option X) (x : X) → o ≡ Some x → IfSome o P → P x
of_some P o x is p = subst (λ q. IfSome q P) is p

pub if_some : {X : Type 0} (P : X → Type 0) (o : Option X) (x : X) → o ≡ Some x → P x → IfSome o P
if_some P o x is p = subst (λ q. IfSome q P) (sym is) p

-- ---- changes of planned segments

abbrev pub changes_for : List Planned → List SlotChange
changes_for ps = map system_change (written_segments ps)

pub changes_append : (ps qs : List Planned) → changes_for (ps ++ qs) ≡ changes_for ps ++ changes_for qs
changes_append ps qs =
    ap (λ l. map system_change (map (λ (p : Planned). (p.number, Some p.bytes)) l)) (filter-append (λ (p : Planned). p.is_due) ps qs)
    ∙ ap (map system_change) (map-append (λ (p : Planned). (p.number, Some p.bytes)) (filter (λ (p : Planned). p.is_due) ps) (filter (λ (p : Planned). p.is_due) qs))
    ∙ map-append system_change (written_segments ps) (written_segments qs)

one_more : (o : Option ℕ) (ns : List ℕ) → option_to_list o ++ ns ≡ cons_option o ns
one_more None ns = refl
one_more (Some n) ns = refl

-- ---- one chunk of a list

module _ {X : Type 0} (vs : List (ChunkView X)) (i : ℕ) (v : ChunkView X) (lt : i < length vs) (is : v ≡ get_or vs i v) where
  turn : map chunk_of (drop i vs) ≡ chunk_of v ∷ map chunk_of (drop (i + 1) vs)
  turn = ap (map chunk_of) (at_turn vs i v lt is)

  abbrev behind : List (Chunk X)
  behind = map chunk_of (drop (i + 1) vs)

  pub numbers_step : (old new spare all : List ℕ) → new ≡ old ++ option_to_list (number_from v.number spare) → old ++ numbers (written spare (map chunk_of (drop i vs))) ≡ all → new ++ numbers (written (spare_behind v.number spare) behind) ≡ all
  numbers_step old new spare all grown so_far =
      ap (λ l. l ++ numbers (written (spare_behind v.number spare) behind)) grown
      ∙ append_assoc old (option_to_list (number_from v.number spare)) (numbers (written (spare_behind v.number spare) behind))
      ∙ ap (λ l. old ++ l) (one_more (number_from v.number spare) (numbers (written (spare_behind v.number spare) behind)))
      ∙ ap (λ l. old ++ numbers (written spare l)) (sym turn)
      ∙ so_far

  pub changes_step : (bytes : List X → List ℕ) (spare : List ℕ) (old new all : List SlotChange) → new ≡ old ++ changes_for (planned_as (number_from v.number spare) (segment_of bytes (chunk_of v)))
      → old ++ changes_for (planned spare (segments bytes (map chunk_of (drop i vs)))) ≡ all → new ++ changes_for (planned (spare_behind v.number spare) (segments bytes behind)) ≡ all
  changes_step bytes spare old new all grown so_far =
      let first = planned_as (number_from v.number spare) (segment_of bytes (chunk_of v)) in
      let rest = planned (spare_behind v.number spare) (segments bytes behind) in
      ap (λ l. l ++ changes_for rest) grown
      ∙ append_assoc old (changes_for first) (changes_for rest)
      ∙ ap (λ l. old ++ l) (sym (changes_append first rest))
      ∙ ap (λ l. old ++ changes_for (planned spare (segments bytes l))) (sym turn)
      ∙ so_far

  pub each_step : (P : Chunk X → Type 0) → Each P (map chunk_of (drop i vs)) → P (chunk_of v) × Each P behind
  each_step P a = subst (Each P) turn a

  pub left_step : (spare all : List ℕ) → spare_of spare (map chunk_of (drop i vs)) ≡ all → spare_of (spare_behind v.number spare) behind ≡ all
  left_step spare all so_far = ap (spare_of spare) (sym turn) ∙ so_far

  pub count_step : numberless (map chunk_of (drop i vs)) ≡ cond (is_some v.number) (numberless behind) (suc (numberless behind))
  count_step = ap numberless turn ∙ by_number (chunk_of v) behind v.number
    where
      by_number : (c : Chunk X) (cs : List (Chunk X)) (o : Option ℕ) → numberless (record { entries = c.entries; number = o; changed = c.changed } ∷ cs) ≡ cond (is_some o) (numberless cs) (suc (numberless cs))
      by_number c cs None = refl
      by_number c cs (Some n) = refl

-- ---- one index

abbrev pub fields_ids : List (ℕ × FieldList) → List ℕ
fields_ids fs = map (λ f. f.0) fs

found_here : (id : ℕ) (f : ℕ × FieldList) (fs : List (ℕ × FieldList)) → f.0 ≡ id → field_at id (f ∷ fs) ≡ Some f.1
found_here id f fs same = ap (λ b. option_map (λ (g : ℕ × FieldList). g.1) (cond b (Some f) (find (λ (g : ℕ × FieldList). nat_eq g.0 id) fs))) (eq-eqb f.0 id same)

found_later : (id : ℕ) (f : ℕ × FieldList) (fs : List (ℕ × FieldList)) → f.0 < id → field_at id (f ∷ fs) ≡ field_at id fs
found_later id f fs lt = ap (λ b. option_map (λ (g : ℕ × FieldList). g.1) (cond b (Some f) (find (λ (g : ℕ × FieldList). nat_eq g.0 id) fs))) (unequal f.0 id (λ same. absurd (omega (arith, lt, same))))

-- the index at a place is that of its id, where the ids rise
pub index_at : (fs : List (ℕ × FieldList)) (i : ℕ) (d : ℕ × FieldList) → AreRising (fields_ids fs) → i < length fs → field_at (get_or fs i d).0 fs ≡ Some (get_or fs i d).1
index_at [] i d a lt = absurd (omega arith)
index_at (f ∷ fs) zero d a lt = found_here f.0 f fs refl
index_at (f ∷ fs) (suc i) d a lt =
    let above : f.0 < (get_or fs i d).0 = subst (λ n. f.0 < n) (get_or-map (λ (g : ℕ × FieldList). g.0) fs i d d.0 (omega arith)) (each_at (λ n. f.0 < n) i d.0 (fields_ids fs) (omega (arith, length-map fs (λ (g : ℕ × FieldList). g.0))) a.0) in
    found_later (get_or fs i d).0 f fs above ∙ index_at fs i d a.1 (omega arith)

-- ---- entries of segments

-- the entries of each chunk are those of a segment
pub chunk_entries : {X : Type 0} (cmp : X → X → Ordering) (test fits : X → Bool) → ((x : X) → test x ≡ true → fits x ≡ true) → (cs : List (Chunk X)) → Each IsSizedChunk cs → IsAscending cmp (joined cs) → list_all test (joined cs) ≡ true → Each (λ c. AreEntries cmp fits c.entries) cs
chunk_entries cmp test fits may [] sized asc all = tt
chunk_entries cmp test fits may (c ∷ cs) sized asc all =
    let parts = and_parts (list_all test c.entries) (list_all test (joined cs)) (sym (list_all-append test c.entries (joined cs)) ∙ all) in (
      record { some = sized.0.some; few = sized.0.few; each = weaker test fits may c.entries parts.0; ascending = pairs_front (λ x y. cmp x y ≡ Less) c.entries (joined cs) asc },
      chunk_entries cmp test fits may cs sized.1 (pairs_rest (λ x y. cmp x y ≡ Less) c.entries (joined cs) asc) parts.1,
    )

-- ---- one index of the lists, written

module _ (fs : List (ℕ × FieldList)) (i : ℕ) (lt : i < length fs) (f : ℕ × FieldList) (is : f ≡ get_or fs i f) (cs : List (Chunk IndexItem)) (are : cs ≡ (f.1).chunks) where
  abbrev after : List (ℕ × FieldList)
  after = drop (i + 1) fs

  pub entries_step : (old new : List ListEntry) (spare all : List ℕ) (whole : List ListEntry) → new ≡ old ++ record { id = f.0; segments = numbers (written spare cs) } ∷ [] → old ++ map named (written_fields spare (drop i fs)) ≡ whole → new ++ map named (written_fields (spare_of spare cs) after) ≡ whole
  entries_step old new spare all whole grown so_far =
      (λ j. (grown ∙ ap (λ k. old ++ record { id = f.0; segments = numbers (written spare k) } ∷ []) are) j ++ map named (written_fields (spare_of spare (are j)) after))
      ∙ append_assoc old (named (f.0, record { base = (f.1).base; chunks = written spare (f.1).chunks; marked = written spare (f.1).chunks }) ∷ []) (map named (written_fields (spare_of spare (f.1).chunks) after))
      ∙ ap (λ k. old ++ map named (written_fields spare k)) (sym (at_turn fs i f lt is))
      ∙ so_far

  pub segments_step : (old new whole : List SlotChange) (spare : List ℕ) → new ≡ old ++ changes_for (planned spare (segments (segment_bytes (index_spelling (Some (f.1).base))) cs))
      → old ++ changes_for (planned spare (field_segments (drop i fs))) ≡ whole → new ++ changes_for (planned (spare_of spare cs) (field_segments after)) ≡ whole
  segments_step old new whole spare grown so_far =
      let bytes = segment_bytes (index_spelling (Some (f.1).base)) in
      let first = planned spare (index_segments f.1) in
      let rest = planned (spare_left spare (index_segments f.1)) (field_segments after) in
      (λ j. (grown ∙ ap (λ k. old ++ changes_for (planned spare (segments bytes k))) are) j ++ changes_for (planned ((ap (spare_of spare) are ∙ left_of bytes spare (f.1).chunks) j) (field_segments after)))
      ∙ append_assoc old (changes_for first) (changes_for rest)
      ∙ ap (λ k. old ++ k) (sym (changes_append first rest) ∙ ap changes_for (sym (planned_append spare (index_segments f.1) (field_segments after))))
      ∙ ap (λ k. old ++ changes_for (planned spare (field_segments k))) (sym (at_turn fs i f lt is))
      ∙ so_far

  pub count_more : (old new whole : ℕ) → new ≡ old + numberless cs → old + numberless_in (drop i fs) ≡ whole → new + numberless_in after ≡ whole
  count_more old new whole grown so_far =
      let turned : numberless_in (drop i fs) ≡ numberless (f.1).chunks + numberless_in after = ap numberless_in (at_turn fs i f lt is) ∙ sum_by-cons (λ (g : ℕ × FieldList). numberless (g.1).chunks) f after in
      let same : numberless cs ≡ numberless (f.1).chunks = ap numberless are in
      omega (arith, grown, so_far, turned, same)

-- ---- the fields that have an index, with their kinds

abbrev pub item_of : ℕ × FieldList → ℕ × Base
item_of f = (f.0, (f.1).base)

pub same_default : {X : Type 0} (xs : List X) (i : ℕ) (d e : X) → i < length xs → get_or xs i d ≡ get_or xs i e
same_default [] i d e lt = absurd (omega arith)
same_default (x ∷ xs) zero d e lt = refl
same_default (x ∷ xs) (suc i) d e lt = same_default xs i d e (omega arith)

-- the index at a place, told by its id and its kind
pub record IsItem (fs : List (ℕ × FieldList)) (i : ℕ) (q : ℕ × Base) : Type 0 where
  pub field : ℕ × FieldList
  pub is : field ≡ get_or fs i field
  pub within : i < length fs
  pub id : q.0 ≡ field.0
  pub base : q.1 ≡ (field.1).base
  pub found : field_at q.0 fs ≡ Some field.1

pub item_at : (items : List (ℕ × Base)) (fs : List (ℕ × FieldList)) (i : ℕ) → items ≡ map item_of fs → AreRising (fields_ids fs) → i < length items → IsItem fs i (get_or items i (0, base.Bool))
item_at items fs i e rising lt =
    let within : i < length fs = omega (arith, lt, ap length e, length-map fs item_of) in
    let d : ℕ × FieldList = (0, record { base = base.Bool; chunks = []; marked = [] }) in
    let field : ℕ × FieldList = get_or fs i d in
    let same : get_or items i (0, base.Bool) ≡ item_of field = ap (λ l. get_or l i (0, base.Bool)) e ∙ get_or-map' item_of fs i d in
    record {
      field = field;
      is = same_default fs i d field within;
      within = within;
      id = ap (λ (q : ℕ × Base). q.0) same;
      base = ap (λ (q : ℕ × Base). q.1) same;
      found = ap (λ (q : ℕ × Base). field_at q.0 fs) same ∙ index_at fs i d rising within;
    }

-- the chunks of that index have the entries of segments
pub item_entries : (fs : List (ℕ × FieldList)) (i : ℕ) (q : ℕ × Base) (t : IsItem fs i q) (cs : List (Chunk IndexItem)) → cs ≡ ((t.field).1).chunks → IsList index_cmp ((t.field).1).chunks
    → Each (λ (f : ℕ × FieldList). list_all (index_stands (Some (f.1).base)) (joined (f.1).chunks) ≡ true) fs → Each (λ c. AreEntries index_cmp (index_fits (Some q.1)) c.entries) cs
item_entries fs i q t cs are list writable =
    let b = ((t.field).1).base in
    let own = subst (λ (f : ℕ × FieldList). list_all (index_stands (Some (f.1).base)) (joined (f.1).chunks) ≡ true) (sym t.is) (each_at (λ (f : ℕ × FieldList). list_all (index_stands (Some (f.1).base)) (joined (f.1).chunks) ≡ true) i t.field fs t.within writable) in
    subst (λ k. Each (λ c. AreEntries index_cmp (index_fits (Some k)) c.entries) cs) (sym t.base)
    (subst (Each (λ c. AreEntries index_cmp (index_fits (Some b)) c.entries)) (sym are)
    (chunk_entries index_cmp (index_stands (Some b)) (index_fits (Some b)) (index_writable (Some b)) ((t.field).1).chunks list.sized list.ascending own))

-- one index more is a list in chunks
pub lists_more : (fs : List (ℕ × FieldList)) (i : ℕ) (f : ℕ × FieldList) → f ≡ get_or fs i f → i < length fs → IsList index_cmp (f.1).chunks → Each (λ (g : ℕ × FieldList). IsList index_cmp (g.1).chunks) (take i fs) → Each (λ (g : ℕ × FieldList). IsList index_cmp (g.1).chunks) (take (i + 1) fs)
lists_more fs i f is lt list so_far =
    subst (Each (λ (g : ℕ × FieldList). IsList index_cmp (g.1).chunks)) (sym (take_more fs i f lt ∙ ap (λ k. take i fs ++ k ∷ []) (sym is)))
    (each_append (λ (g : ℕ × FieldList). IsList index_cmp (g.1).chunks) (take i fs) (f ∷ []) so_far (list, tt))

-- ---- all lists

pub lists_changes : (l : StoreLists) (ns : List ℕ) (cs : List (Chunk ExtentItem)) → cs ≡ (l.extents).chunks → (rest : List ℕ) → rest ≡ spare_of ns cs → (old mid new : List SlotChange)
    → mid ≡ old ++ changes_for (planned ns (segments (segment_bytes (extent_spelling None)) cs)) → new ≡ mid ++ changes_for (planned rest (field_segments l.fields)) → new ≡ old ++ changes_for (planned ns (list_segments l))
lists_changes l ns cs are rest left old mid new first second =
    let bytes = segment_bytes (extent_spelling None) in
    let a = planned ns (segments bytes cs) in
    let b = planned (spare_left ns (segments bytes cs)) (field_segments l.fields) in
    second
    ∙ (λ j. first j ++ changes_for (planned ((left ∙ left_of bytes ns cs) j) (field_segments l.fields)))
    ∙ append_assoc old (changes_for a) (changes_for b)
    ∙ ap (λ k. old ++ k) (sym (changes_append a b) ∙ ap changes_for (sym (planned_append ns (segments bytes cs) (field_segments l.fields))))
    ∙ ap (λ k. old ++ changes_for (planned ns (segments bytes k ++ field_segments l.fields))) are

pub count_turn : (b : Bool) (one here behind old whole : ℕ) → one ≡ cond b 0 1 → here ≡ cond b behind (suc behind) → old + here ≡ whole → (old + one) + behind ≡ whole
count_turn true one here behind old whole a b c = omega (arith, a, b, c)
count_turn false one here behind old whole a b c = omega (arith, a, b, c)

pub one_most : (b : Bool) (one : ℕ) → one ≡ cond b 0 1 → one ≤ 1
one_most true one a = omega (arith, a)
one_most false one a = omega (arith, a)
