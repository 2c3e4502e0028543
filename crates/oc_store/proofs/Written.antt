-- The lists once a commit has written them.
use Rattle.std.proofs.Common.{◌≡◌, ◌⊎◌, inl, inr, ◌∙◌, ap, ap₂, sym, refl, subst, ℕ, ◌+◌, ◌≤◌, true, false, List, [], ◌∷◌, ◌++◌, length, map, Some, None, arith}
use Rattle.std.specs.Prelude.{flat_map, IsTrue}
use Rattle.std.specs.List.{list_all}
use Rattle.std.proofs.lemmas.List.{map-append}
use Rattle.std.proofs.lemmas.List.Elements.{filter_map-append}
use Rattle.std.proofs.lemmas.List.Sums.{sum_by-cons}
use Rattle.oc_model.specs.Lists.{IsOneOf}
use Rattle.oc_model.specs.Schemas.{Schema}
use Rattle.oc_model.specs.Spelling.{segment_bytes}
use Rattle.oc_model.specs.declared.value.Base.{Base}
use Rattle.oc_chunks.specs.Ascending.{Each}
use Rattle.oc_chunks.specs.Chunks.{Chunk, joined, numbers}
use Rattle.oc_chunks.specs.Opening.{spare_behind, spare_of, written}
use Rattle.oc_chunks.proofs.Eaches.{each_more}
use Rattle.oc_chunks.proofs.Views.{each_member}
use Rattle.oc_index.specs.declared.items.IndexItem.{IndexItem}
use Rattle.oc_index.specs.Fields.{FieldList}
use Rattle.oc_index.specs.Indexed.{undone, written_fields, written_list, StoreLists}
use Rattle.oc_segments.specs.Items.{extent_fits, extent_spelling, index_spelling, index_stands}
use Rattle.oc_lists.specs.Keeping.{extent_suits, list_numbers, AreKept, AreListsOf, StandAsThen}
use Rattle.oc_lists.specs.Lists.{bases_in, lists_then, IsMarked}
use Rattle.oc_store.specs.Last.{extent_segments, field_segments, index_segments, list_segments, lists_written, numberless, numberless_in, numberless_of, planned, spare_left, Segment}
use Rattle.oc_store.specs.Sides.{AreWritten, IsWritten}
use Rattle.oc_store.proofs.Plans.{has_number, left_length, left_of, number_of, old_numbers, old_of, planned_append, planned_numbers, written_joined, written_numbers}

abbrev index_bytes : Base → List IndexItem → List ℕ
index_bytes base = segment_bytes (index_spelling (Some base))

-- ---- the numbers

numbers_append : (spare : List ℕ) (ss ts : List Segment) → planned_numbers spare (ss ++ ts) ≡ planned_numbers spare ss ++ planned_numbers (spare_left spare ss) ts
numbers_append spare ss ts = ap (map number_of) (planned_append spare ss ts) ∙ map-append number_of (planned spare ss) (planned (spare_left spare ss) ts)

fields_numbers : (spare : List ℕ) (fs : List (ℕ × FieldList)) → flat_map (λ f. numbers (f.1).chunks) (written_fields spare fs) ≡ planned_numbers spare (field_segments fs)
fields_numbers spare [] = refl
fields_numbers spare (f ∷ fs) =
    let bytes = index_bytes (f.1).base in
    ap₂ (λ a b. a ++ b) (written_numbers bytes spare (f.1).chunks) (fields_numbers (spare_of spare (f.1).chunks) fs)
    ∙ ap (λ k. planned_numbers spare (index_segments f.1) ++ planned_numbers k (field_segments fs)) (left_of bytes spare (f.1).chunks)
    ∙ sym (numbers_append spare (index_segments f.1) (field_segments fs))

-- the chunks have the numbers that the segments get
pub numbers_written : (ns : List ℕ) (l : StoreLists) → list_numbers (lists_written ns l) ≡ planned_numbers ns (list_segments l)
numbers_written ns l =
    let bytes = segment_bytes (extent_spelling None) in
    let cs = (l.extents).chunks in
    ap₂ (λ a b. a ++ b) (written_numbers bytes ns cs) (fields_numbers (spare_of ns cs) l.fields)
    ∙ ap (λ k. planned_numbers ns (extent_segments cs) ++ planned_numbers k (field_segments l.fields)) (left_of bytes ns cs)
    ∙ sym (numbers_append ns (extent_segments cs) (field_segments l.fields))

fields_old : (fs : List (ℕ × FieldList)) → old_numbers (field_segments fs) ≡ flat_map (λ f. numbers (f.1).chunks) fs
fields_old [] = refl
fields_old (f ∷ fs) = filter_map-append (λ (s : Segment). s.number) (index_segments f.1) (field_segments fs) ∙ ap₂ (λ a b. a ++ b) (sym (old_of (index_bytes (f.1).base) (f.1).chunks)) (fields_old fs)

pub numbers_old : (l : StoreLists) → old_numbers (list_segments l) ≡ list_numbers l
numbers_old l = filter_map-append (λ (s : Segment). s.number) (extent_segments (l.extents).chunks) (field_segments l.fields) ∙ ap₂ (λ a b. a ++ b) (sym (old_of (segment_bytes (extent_spelling None)) (l.extents).chunks)) (fields_old l.fields)

-- ---- all are written

module _ {X : Type 0} where
  pub chunks_written : (spare : List ℕ) (cs : List (Chunk X)) → numberless cs ≤ length spare → Each IsWritten (written spare cs)
  chunks_written spare [] le = tt
  chunks_written spare (c ∷ cs) le =
      let h = has_number c cs spare le in
      ((h.number, λ i. record { entries = c.entries; number = h.is i; changed = false }), chunks_written (spare_behind c.number spare) cs h.enough)

pub fields_enough : (spare : List ℕ) (f : ℕ × FieldList) (fs : List (ℕ × FieldList)) → numberless_in (f ∷ fs) ≤ length spare → (numberless (f.1).chunks ≤ length spare) × (numberless_in fs ≤ length (spare_of spare (f.1).chunks))
fields_enough spare f fs le =
    let total : numberless (f.1).chunks + numberless_in fs ≤ length spare = omega (arith, le, sum_by-cons (λ (g : ℕ × FieldList). numberless (g.1).chunks) f fs) in
    let here : numberless (f.1).chunks ≤ length spare = omega (arith, total) in
    let rest = left_length spare (f.1).chunks here in
    (here, omega (arith, total, rest))

pub lists_enough : (ns : List ℕ) (l : StoreLists) → length ns ≡ numberless_of l → (numberless (l.extents).chunks ≤ length ns) × (numberless_in l.fields ≤ length (spare_of ns (l.extents).chunks))
lists_enough ns l e =
    let here : numberless (l.extents).chunks ≤ length ns = omega (arith, e) in
    let rest = left_length ns (l.extents).chunks here in
    (here, omega (arith, e, rest))

indexes_are_written : (spare : List ℕ) (fs : List (ℕ × FieldList)) → numberless_in fs ≤ length spare → Each (λ f. Each IsWritten (f.1).chunks) (written_fields spare fs)
indexes_are_written spare [] le = tt
indexes_are_written spare (f ∷ fs) le = let e = fields_enough spare f fs le in (chunks_written spare (f.1).chunks e.0, indexes_are_written (spare_of spare (f.1).chunks) fs e.1)

pub indexes_marked : (spare : List ℕ) (fs : List (ℕ × FieldList)) → Each (λ f. (f.1).marked ≡ (f.1).chunks) (written_fields spare fs)
indexes_marked spare [] = tt
indexes_marked spare (f ∷ fs) = (refl, indexes_marked (spare_of spare (f.1).chunks) fs)

-- each chunk has a number, and hasn't changed since
pub are_written : (ns : List ℕ) (l : StoreLists) → length ns ≡ numberless_of l → AreWritten (lists_written ns l)
are_written ns l e = let h = lists_enough ns l e in record {
  extents = chunks_written ns (l.extents).chunks h.0;
  fields = indexes_are_written (spare_of ns (l.extents).chunks) l.fields h.1;
  marked = indexes_marked (spare_of ns (l.extents).chunks) l.fields;
}

-- ---- nothing has changed since the mark

pub is_marked : (ns : List ℕ) (l : StoreLists) → IsMarked (lists_written ns l)
is_marked ns l = record { extents = refl; fields = refl; each = indexes_marked (spare_of ns (l.extents).chunks) l.fields }

pub then_written : (ns : List ℕ) (l : StoreLists) → lists_then (lists_written ns l) ≡ lists_written ns l
then_written ns l = refl

stand : {X : Type 0} (cs : List (Chunk X)) → StandAsThen cs cs
stand cs = each_more (λ c. IsOneOf c cs) (λ c. (c.changed ≡ true) ⊎ IsOneOf c cs) cs (λ c i. inr i) (each_member cs)

indexes_stand : (spare : List ℕ) (fs : List (ℕ × FieldList)) → Each (λ f. StandAsThen (f.1).marked (f.1).chunks) (written_fields spare fs)
indexes_stand spare [] = tt
indexes_stand spare (f ∷ fs) = (stand (written spare (f.1).chunks), indexes_stand (spare_of spare (f.1).chunks) fs)

indexes_then : (spare : List ℕ) (fs : List (ℕ × FieldList)) → Each (λ f. IsOneOf (f.0, undone f.1) (written_fields spare fs)) (written_fields spare fs)
indexes_then spare [] = tt
indexes_then spare (f ∷ fs) =
    let rest = written_fields (spare_of spare (f.1).chunks) fs in
    let first : ℕ × FieldList = (f.0, written_list spare f.1) in
    (inl refl, each_more (λ (g : ℕ × FieldList). IsOneOf (g.0, undone g.1) rest) (λ (g : ℕ × FieldList). IsOneOf (g.0, undone g.1) (first ∷ rest)) rest (λ g i. inr i) (indexes_then (spare_of spare (f.1).chunks) fs))

pub are_kept : (ns : List ℕ) (l : StoreLists) → AreKept (lists_written ns l)
are_kept ns l =
    let spare = spare_of ns (l.extents).chunks in
    record {
      extents = stand (written ns (l.extents).chunks);
      fields = indexes_stand spare l.fields;
      then = each_more (λ (f : ℕ × FieldList). IsOneOf (f.0, undone f.1) (written_fields spare l.fields)) (λ (f : ℕ × FieldList). ((f.1).marked ≡ []) ⊎ IsOneOf (f.0, undone f.1) (written_fields spare l.fields)) (written_fields spare l.fields) (λ f i. inr i) (indexes_then spare l.fields);
    }

-- ---- the lists of the schema

pub fields_ids : (spare : List ℕ) (fs : List (ℕ × FieldList)) → map (λ f. f.0) (written_fields spare fs) ≡ map (λ f. f.0) fs
fields_ids spare [] = refl
fields_ids spare (f ∷ fs) = ap (λ k. f.0 ∷ k) (fields_ids (spare_of spare (f.1).chunks) fs)

fields_bases : (P : ℕ × Base → Type 0) (spare : List ℕ) (fs : List (ℕ × FieldList)) → Each (λ f. P (f.0, (f.1).base)) fs → Each (λ f. P (f.0, (f.1).base)) (written_fields spare fs)
fields_bases P spare [] a = tt
fields_bases P spare (f ∷ fs) a = (a.0, fields_bases P (spare_of spare (f.1).chunks) fs a.1)

fields_writable : (spare : List ℕ) (fs : List (ℕ × FieldList)) → Each (λ f. IsTrue (list_all (index_stands (Some (f.1).base)) (joined (f.1).chunks))) fs → Each (λ f. IsTrue (list_all (index_stands (Some (f.1).base)) (joined (f.1).chunks))) (written_fields spare fs)
fields_writable spare [] a = tt
fields_writable spare (f ∷ fs) a = (subst (λ es. IsTrue (list_all (index_stands (Some (f.1).base)) es)) (sym (written_joined spare (f.1).chunks)) a.0, fields_writable (spare_of spare (f.1).chunks) fs a.1)

pub lists_of : (s : Schema) (ns : List ℕ) (l : StoreLists) → AreListsOf s l → AreListsOf s (lists_written ns l)
lists_of s ns l a =
    let spare = spare_of ns (l.extents).chunks in
    let same = sym (written_joined ns (l.extents).chunks) in
    record {
      indexes = record { ids = fields_ids spare l.fields ∙ (a.indexes).ids; bases = fields_bases (λ p. IsOneOf p (bases_in s)) spare l.fields (a.indexes).bases };
      classes = subst (λ es. IsTrue (list_all (extent_suits s) es)) same a.classes;
      writable = record { extents = subst (λ es. IsTrue (list_all (extent_fits None) es)) same (a.writable).extents; fields = fields_writable spare l.fields (a.writable).fields };
    }
