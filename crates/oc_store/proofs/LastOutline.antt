-- What the system's slots spell once a commit has written the lists.
use Rattle.std.proofs.Common.{◌≡◌, ◌⊎◌, inl, inr, sym, refl, subst, ℕ, ◌≤◌, true, List, [], ◌∷◌, length, Some, None, arith}
use Rattle.std.specs.Prelude.{IsSomeAnd, IsTrue}
use Rattle.std.specs.List.{list_all}
use Rattle.oc_model.specs.Lists.{IsOneOf}
use Rattle.oc_model.specs.Schemas.{Schema}
use Rattle.oc_model.specs.Spelling.{catalog_bytes, segment_bytes}
use Rattle.oc_model.proofs.Elements.{in_left, in_right}
use Rattle.oc_chunks.specs.Ascending.{Each, IsAscending}
use Rattle.oc_chunks.specs.Chunks.{joined, Chunk}
use Rattle.oc_chunks.specs.Opening.{spare_of, written, IsList}
use Rattle.oc_chunks.proofs.Eaches.{each_append, each_more}
use Rattle.oc_index.specs.declared.items.ExtentItem.{ExtentItem}
use Rattle.oc_index.specs.declared.items.IndexItem.{IndexItem}
use Rattle.oc_index.specs.Fields.{FieldList}
use Rattle.oc_index.specs.Indexed.{undone, written_fields, StoreLists}
use Rattle.oc_index.specs.Items.{extent_cmp, index_cmp}
use Rattle.oc_segments.specs.Items.{extent_fits, extent_spelling, index_spelling, index_stands}
use Rattle.oc_segments.specs.Segments.{AreEntries}
use Rattle.oc_catalog.specs.declared.catalog.Catalog.{Catalog}
use Rattle.oc_catalog.specs.Catalogs.{SpellsCatalog}
use Rattle.oc_slots.specs.Maps.{SlotMap}
use Rattle.oc_lists.specs.Keeping.{extent_suits, AreKept, AreListsOf, StandAsThen}
use Rattle.oc_lists.specs.Lists.{bases_in, lists_then}
use Rattle.oc_store.specs.Last.{extent_segments, field_segments, index_segments, list_segments, lists_written, numberless_in, numberless_of, planned, spare_left, AreInChunks, Planned, Segment}
use Rattle.oc_store.specs.Listed.{index_suits}
use Rattle.oc_store.specs.Lists.{system_slot, IsKept, SpellsExtents, SpellsIndex}
use Rattle.oc_store.specs.Outlines.{named_lists, IsIndex, IsOutline}
use Rattle.oc_store.specs.Sides.{Heading}
use Rattle.oc_store.proofs.OneList.{all_kept, one_extents, one_index}
use Rattle.oc_store.proofs.Plans.{left_of, of_each, planned_append, segments, written_joined}
use Rattle.oc_store.proofs.Writings.{chunk_entries}
use Rattle.oc_store.proofs.Written.{fields_enough, lists_enough}
use Rattle.oc_store.proofs.WrittenChunks.{are_next, written_kept, IsDone}

-- ---- a segment and a catalog have a byte

some_segment : {X : Type 0} (spell : X → List ℕ) (xs : List X) → 1 ≤ length (segment_bytes spell xs)
some_segment spell xs = omega arith

some_segments : {X : Type 0} (spell : X → List ℕ) (cs : List (Chunk X)) → Each (λ (s : Segment). 1 ≤ length s.bytes) (segments (segment_bytes spell) cs)
some_segments spell [] = tt
some_segments spell (c ∷ cs) = (some_segment spell c.entries, some_segments spell cs)

some_fields : (fs : List (ℕ × FieldList)) → Each (λ (s : Segment). 1 ≤ length s.bytes) (field_segments fs)
some_fields [] = tt
some_fields (f ∷ fs) = each_append (λ (s : Segment). 1 ≤ length s.bytes) (index_segments f.1) (field_segments fs) (some_segments (index_spelling (Some (f.1).base)) (f.1).chunks) (some_fields fs)

pub some_lists : (l : StoreLists) → Each (λ (s : Segment). 1 ≤ length s.bytes) (list_segments l)
some_lists l = each_append (λ (s : Segment). 1 ≤ length s.bytes) (extent_segments (l.extents).chunks) (field_segments l.fields) (some_segments (extent_spelling None) (l.extents).chunks) (some_fields l.fields)

pub some_catalog : (c : Catalog) (b : List ℕ) → SpellsCatalog c b → 1 ≤ length b
unfolding catalog_bytes
some_catalog c b s = subst (λ k. 1 ≤ length k) (sym s.bytes) (omega arith)

-- ---- the outline

all_suited : (s : Schema) (es : List IndexItem) → list_all (index_suits s) es ≡ true
all_suited s [] = refl
all_suited s (e ∷ es) = all_suited s es

module _ (m n : SlotMap) (t s : Schema) (marked : List (ℕ × FieldList)) (was : Each (IsIndex m t) marked) where
  index_kept : (f : ℕ × FieldList) → ((f.1).marked ≡ []) ⊎ IsOneOf (f.0, undone f.1) marked → Each (IsKept (SpellsIndex (f.1).base) m) (f.1).marked
  index_kept f (inl none) = subst (Each (IsKept (SpellsIndex (f.1).base) m)) (sym none) tt
  index_kept f (inr one) = all_kept (SpellsIndex (f.1).base) (one_index (f.1).base) m index_cmp (index_suits t) [] (f.1).marked (of_each (IsIndex m t) marked (f.0, undone f.1) was one).sound

  fields_outlined : (spare : List ℕ) (fs : List (ℕ × FieldList)) → numberless_in fs ≤ length spare → Each (λ f. StandAsThen (f.1).marked (f.1).chunks) fs → Each (λ f. ((f.1).marked ≡ []) ⊎ IsOneOf (f.0, undone f.1) marked) fs
      → Each (λ f. IsOneOf (f.0, (f.1).base) (bases_in s)) fs → Each (λ f. IsList index_cmp (f.1).chunks) fs → Each (λ f. IsTrue (list_all (index_stands (Some (f.1).base)) (joined (f.1).chunks))) fs
      → ((p : Planned) → IsOneOf p (planned spare (field_segments fs)) → IsDone m n p) → Each (IsIndex n s) (written_fields spare fs)
  fields_outlined spare [] enough stands then bases lists writable done = tt
  fields_outlined spare (f ∷ fs) enough stands then bases lists writable done =
      let b = (f.1).base in
      let cs = (f.1).chunks in
      let bytes = segment_bytes (index_spelling (Some b)) in
      let few = fields_enough spare f fs enough in
      let split = planned_append spare (index_segments f.1) (field_segments fs) in
      let rest = planned (spare_left spare (index_segments f.1)) (field_segments fs) in
      let entries = chunk_entries index_cmp (index_stands (Some b)) (index_stands (Some b)) (λ x e. e) cs lists.0.sized lists.0.ascending writable.0 in
      let spells = each_more (λ (c : Chunk IndexItem). AreEntries index_cmp (index_stands (Some b)) c.entries) (λ (c : Chunk IndexItem). SpellsIndex b c.entries (bytes c.entries)) cs (λ c a. record { is = a; bytes = refl }) entries in
      let kept = written_kept (SpellsIndex b) bytes m n (f.1).marked (index_kept f then.0) spare cs few.0 spells stands.0 (λ p i. done p (subst (IsOneOf p) (sym split) (in_left p (planned spare (index_segments f.1)) rest i))) in (
        record {
          base = bases.0;
          sound = are_next (SpellsIndex b) n index_cmp (index_suits s) [] (written spare cs) kept (all_suited s (joined (written spare cs))) (subst (IsAscending index_cmp) (sym (written_joined spare cs)) lists.0.ascending);
        },
        fields_outlined (spare_of spare cs) fs few.1 stands.1 then.1 bases.1 lists.1 writable.1
            (λ p i. done p (subst (IsOneOf p) (sym split) (in_right p (planned spare (index_segments f.1)) rest (subst (λ k. IsOneOf p (planned k (field_segments fs))) (left_of bytes spare cs) i)))),
      )

pub outlined : (l : StoreLists) (ns : List ℕ) (s : Schema) → AreKept l → AreListsOf s l → AreInChunks l → length ns ≡ numberless_of l → (first next : ℕ) (m n : SlotMap) (then : Heading) → IsOutline first m then.next then.schema (lists_then l)
    → ((p : Planned) → IsOneOf p (planned ns (list_segments l)) → IsDone m n p) → IsSomeAnd (n (system_slot 1)) (SpellsCatalog (record { next = next; schema = s; lists = named_lists (lists_written ns l) })) → IsOutline first n next s (lists_written ns l)
outlined l ns s kept lists chunks enough first next m n then o done catalog =
    let cs = (l.extents).chunks in
    let bytes = segment_bytes (extent_spelling None) in
    let few = lists_enough ns l enough in
    let split = planned_append ns (extent_segments cs) (field_segments l.fields) in
    let rest = planned (spare_left ns (extent_segments cs)) (field_segments l.fields) in
    let was = all_kept SpellsExtents one_extents m extent_cmp (extent_suits then.schema) [] (l.extents).marked o.extents in
    let entries = chunk_entries extent_cmp (extent_fits None) (extent_fits None) (λ x e. e) cs (chunks.extents).sized (chunks.extents).ascending (lists.writable).extents in
    let spells = each_more (λ (c : Chunk ExtentItem). AreEntries extent_cmp (extent_fits None) c.entries) (λ (c : Chunk ExtentItem). SpellsExtents c.entries (bytes c.entries)) cs (λ c a. record { is = a; bytes = refl }) entries in
    let stand = written_kept SpellsExtents bytes m n (l.extents).marked was ns cs few.0 spells kept.extents (λ p i. done p (subst (IsOneOf p) (sym split) (in_left p (planned ns (extent_segments cs)) rest i))) in
    record {
      catalog = inl catalog;
      extents = are_next SpellsExtents n extent_cmp (extent_suits s) [] (written ns cs) stand (subst (λ es. IsTrue (list_all (extent_suits s) es)) (sym (written_joined ns cs)) lists.classes) (subst (IsAscending extent_cmp) (sym (written_joined ns cs)) (chunks.extents).ascending);
      fields = fields_outlined m n then.schema s l.marked o.fields (spare_of ns cs) l.fields few.1 kept.fields kept.then (lists.indexes).bases chunks.fields (lists.writable).fields
          (λ p i. done p (subst (IsOneOf p) (sym split) (in_right p (planned ns (extent_segments cs)) rest (subst (λ k. IsOneOf p (planned k (field_segments l.fields))) (left_of bytes ns cs) i))));
    }
