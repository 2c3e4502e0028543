-- What holds of all that was read of the lists, whatever the file is.
use Rattle.std.proofs.Common.{◌≡◌, ◌∙◌, ap, sym, refl, subst, ℕ, ◌+◌, ◌<◌, Bool, ◌&&◌, ◌||◌, not, List, [], ◌∷◌, ◌++◌, length, get_or, take, map, None, append-nil, arith, nat_cmp}
use Rattle.std.specs.Prelude.{IsTrue, flat_map, nat_le, ◌==◌}
use Rattle.std.specs.List.{list_all}
use Rattle.std.proofs.lemmas.Bool.{and_from, and_parts, leb-true}
use Rattle.std.proofs.lemmas.List.Concat.{flat_map-append}
use Rattle.std.proofs.lemmas.List.Folds.{flat_map-map, list_all-append, list_all_more}
use Rattle.oc_layout.specs.declared.cells.Header.{Header}
use Rattle.oc_layout.specs.Headers.{has_blocks, is_first, is_in_range, is_limit}
use Rattle.oc_model.specs.Lists.{sorted}
use Rattle.oc_model.specs.SchemaRules.{are_apart}
use Rattle.oc_model.specs.Schemas.{Schema, empty_schema}
use Rattle.oc_chunks.specs.declared.opening.Written.{Written}
use Rattle.oc_chunks.specs.Ascending.{Each}
use Rattle.oc_chunks.specs.Chunks.{joined, numbers}
use Rattle.oc_chunks.specs.Opening.{chunk_read}
use Rattle.oc_index.specs.Fields.{FieldList}
use Rattle.oc_index.specs.Indexed.{StoreLists}
use Rattle.oc_catalog.specs.declared.catalog.ListEntry.{ListEntry}
use Rattle.oc_catalog.specs.Catalogs.{indexed_ids, segments_of, AreLists, IsNext}
use Rattle.oc_segments.specs.Items.{extent_fits}
use Rattle.oc_lists.specs.Keeping.{extent_suits, list_numbers, AreListsOf, AreNumbered}
use Rattle.oc_store.specs.Last.{are_small}
use Rattle.oc_store.specs.Outlines.{named, named_lists}
use Rattle.oc_store.specs.Sides.{AreWritten, IsWritten}
use Rattle.oc_store.proofs.Ends.{joined_more}
use Rattle.oc_store.proofs.Readings.{front_more}

-- ---- chunks that were read

module _ {X : Type 0} where
  pub read_written : (ws : List (Written X)) → Each IsWritten (map chunk_read ws)
  read_written [] = tt
  read_written (w ∷ ws) = ((w.number, refl), read_written ws)

  module _ (t : X → Bool) where
    pub all_append : (xs ys : List X) → IsTrue (list_all t xs) → IsTrue (list_all t ys) → IsTrue (list_all t (xs ++ ys))
    all_append xs ys a b = list_all-append t xs ys ∙ and_from (list_all t xs) (list_all t ys) a b

    -- the entries of a chunk more pass too
    pub all_joined : (ws : List (Written X)) (w : Written X) → IsTrue (list_all t (joined (map chunk_read ws))) → IsTrue (list_all t w.entries.items) → IsTrue (list_all t (joined (map chunk_read (ws ++ w ∷ []))))
    all_joined ws w a b = ap (list_all t) (joined_more ws w) ∙ all_append (joined (map chunk_read ws)) w.entries.items a b

    -- one more passes
    pub all_further : (xs : List X) (i : ℕ) (d : X) → i < length xs → IsTrue (list_all t (take i xs)) → IsTrue (t (get_or xs i d)) → IsTrue (list_all t (take (i + 1) xs))
    all_further xs i d lt a b = list_all_more t xs i d lt ∙ and_from (list_all t (take i xs)) (t (get_or xs i d)) a b

-- ---- the numbers of segments

-- the chunks have the numbers that a catalog would name
pub numbers_named : (l : StoreLists) → list_numbers l ≡ segments_of (named_lists l)
numbers_named l = ap (λ ns. numbers (l.extents).chunks ++ ns) (sym (flat_map-map (λ (k : ListEntry). k.segments) named l.fields))

module _ (passes : ℕ → Bool) where
  -- the segments of a list more pass too
  pub segments_more : (lists : List ListEntry) (i : ℕ) (list : ListEntry) → i < length lists → list ≡ get_or lists i list → IsTrue (list_all passes (segments_of (take i lists))) → IsTrue (list_all passes list.segments) → IsTrue (list_all passes (segments_of (take (i + 1) lists)))
  segments_more lists i list lt is a b =
      let split : segments_of (take (i + 1) lists) ≡ segments_of (take i lists) ++ list.segments =
      ap segments_of (front_more lists i list list lt is) ∙ flat_map-append (λ (k : ListEntry). k.segments) (take i lists) (list ∷ []) ∙ ap (λ ns. segments_of (take i lists) ++ ns) (append-nil list.segments) in
      ap (list_all passes) split ∙ all_append passes (segments_of (take i lists)) list.segments a b

  module _ (lists : List ListEntry) (l : StoreLists) (is : named_lists l ≡ lists) where
    pub numbers_pass : IsTrue (list_all passes (segments_of lists)) → IsTrue (list_all passes (list_numbers l))
    numbers_pass a = ap (list_all passes) (numbers_named l ∙ ap segments_of is) ∙ a

    -- the segments of the first list and those of the others
    pub both_pass : (all : ListEntry) (fields : List ListEntry) → lists ≡ all ∷ fields → IsTrue (list_all passes all.segments) → IsTrue (list_all passes (segments_of fields)) → IsTrue (list_all passes (list_numbers l))
    both_pass all fields split a b = numbers_pass (ap (λ ls. list_all passes (segments_of ls)) split ∙ all_append passes all.segments (segments_of fields) a b)

-- what passes both tests passes each
pub each_passes : {X : Type 0} (t u : X → Bool) (xs : List X) → IsTrue (list_all (λ x. t x && u x) xs) → IsTrue (list_all t xs) × IsTrue (list_all u xs)
each_passes t u [] a = (refl, refl)
each_passes t u (x ∷ xs) a =
    let split = and_parts (t x && u x) (list_all (λ y. t y && u y) xs) a in
    let here = and_parts (t x) (u x) split.0 in
    let rest = each_passes t u xs split.1 in
    (and_from (t x) (list_all t xs) here.0 rest.0, and_from (u x) (list_all u xs) here.1 rest.1)

-- the numbers that a catalog names are such as chunks have
pub numbered_named : (passes : ℕ → Bool) (s : Schema) (lists : List ListEntry) (l : StoreLists) → AreLists s lists → named_lists l ≡ lists → IsTrue (list_all passes (list_numbers l)) → AreNumbered passes l
numbered_named passes s lists l are is there = record {
  from_2 = numbers_pass (nat_le 2) lists l is are.from_2;
  once = ap are_apart (numbers_named l ∙ ap segments_of is) ∙ are.once;
  there = there;
}

-- ---- a store without a list

module _ (l : StoreLists) (extents : (l.extents).chunks ≡ []) (fields : l.fields ≡ []) where
  no_fields : (P : ℕ × FieldList → Type 0) → Each P l.fields
  no_fields P = subst (Each P) (sym fields) tt

  pub bare_lists : (s : Schema) → s ≡ empty_schema → AreListsOf s l
  bare_lists s is = record {
    indexes = record {
      ids = ap (map (λ (f : ℕ × FieldList). f.0)) fields ∙ sym (ap (λ (t : Schema). sorted nat_cmp (indexed_ids t.classes)) is);
      bases = no_fields _;
    };
    classes = ap (λ cs. list_all (extent_suits s) (joined cs)) extents;
    writable = record { extents = ap (λ cs. list_all (extent_fits None) (joined cs)) extents; fields = no_fields _ };
  }

  no_numbers : list_numbers l ≡ []
  no_numbers = λ i. numbers (extents i) ++ flat_map (λ (f : ℕ × FieldList). numbers (f.1).chunks) (fields i)

  pub bare_small : IsTrue (are_small (list_numbers l))
  bare_small = ap are_small no_numbers

  pub bare_numbered : (passes : ℕ → Bool) → AreNumbered passes l
  bare_numbered passes = record { from_2 = ap (list_all (nat_le 2)) no_numbers; once = ap are_apart no_numbers; there = ap (list_all passes) no_numbers }

  pub bare_written : AreWritten l
  bare_written = record { extents = subst (Each IsWritten) (sym extents) tt; fields = no_fields _; marked = no_fields _ }

-- the first number of a header is one that a next number may be
pub first_is_next : (h : Header) → IsTrue (is_in_range h) → IsNext h.first
first_is_next h range =
    let p = and_parts (is_limit h.limit && is_first h.first) (not (h.form == 2) || has_blocks h) range in
    let q = and_parts (is_limit h.limit) (is_first h.first) p.0 in
    let r = and_parts (nat_le 1 h.first) (nat_le h.first 2147483646) q.1 in
    (leb-true 1 h.first r.0, omega (arith, leb-true h.first 2147483646 r.1))
