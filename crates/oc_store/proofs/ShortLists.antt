-- Lists that a catalog can name: they are so few, and have so few segments, that 32 bits count them.
use Rattle.std.proofs.Common.{◌≡◌, ◌∙◌, ap, sym, refl, subst, ℕ, suc, ◌+◌, ◌^◌, ◌≤◌, Bool, true, false, cond, not, ◌&&◌, List, [], ◌∷◌, ◌++◌, length, map, filter, arith, nat_cmp}
use Rattle.std.specs.Prelude.{nat_le, nat_lt}
use Rattle.std.specs.List.{list_all}
use Rattle.std.specs.Ordering.{is_lt}
use Rattle.std.proofs.lemmas.Bool.{and_from, and_parts, le-leb, leb-true}
use Rattle.std.proofs.lemmas.List.{length-map}
use Rattle.std.proofs.lemmas.List.Folds.{flat_map-map}
use Rattle.oc_model.specs.declared.schema.FieldDef.{FieldDef}
use Rattle.oc_model.specs.Lists.{placed, sorted, IsOneOf}
use Rattle.oc_model.specs.Maps.{is_in}
use Rattle.oc_model.specs.Schemas.{Schema}
use Rattle.oc_model.specs.SchemaRules.{all_fields, are_apart, keeps_rules}
use Rattle.oc_model.specs.Spelling.{is_word}
use Rattle.oc_model.proofs.Elements.{all_pass, from_filter, from_map, some_passes}
use Rattle.oc_model.proofs.Rules.{limits_kept, rules_kept}
use Rattle.oc_model.proofs.SchemaLaws.{equal_numbers}
use Rattle.oc_chunks.specs.Ascending.{Each, Pairs}
use Rattle.oc_chunks.specs.Chunks.{numbers}
use Rattle.oc_chunks.proofs.Eaches.{each_front, each_more, each_rest, pairs_front, pairs_rest}
use Rattle.oc_catalog.specs.declared.catalog.ListEntry.{ListEntry}
use Rattle.oc_catalog.specs.Catalogs.{indexed_ids, list_ids, segments_of, AreLists}
use Rattle.oc_catalog.specs.Drafts.{are_many, is_entry}
use Rattle.oc_index.specs.Fields.{FieldList}
use Rattle.oc_index.specs.Indexed.{StoreLists}
use Rattle.oc_lists.specs.Keeping.{list_numbers}
use Rattle.oc_store.specs.Numbering.{IsSegmentNumber}
use Rattle.oc_store.specs.Outlines.{named, named_lists}
use Rattle.oc_store.proofs.NamedLists.{each_sorted, ids_apart, ids_are, sorted_ascends, Below, Other}
use Rattle.oc_store.proofs.Plans.{each_of, none_of}

-- ---- numbers, each once, are no more than the greatest

rising_short : (low high : ℕ) (xs : List ℕ) → Pairs Below xs → Each (λ x. low ≤ x) xs → Each (λ x. x ≤ high) xs → low ≤ suc high → length xs + low ≤ suc high
rising_short low high [] p from to le = omega arith
rising_short low high (x ∷ xs) p from to le =
    let rest = rising_short (suc x) high xs p.1 p.0 to.1 (omega (arith, to.0)) in
    omega (arith, rest, from.0)

by_order : (b : Bool) (x y : ℕ) (ys zs : List ℕ) → length zs ≡ suc (length ys) → length (cond b (y ∷ zs) (x ∷ y ∷ ys)) ≡ suc (suc (length ys))
by_order true x y ys zs e = ap suc e
by_order false x y ys zs e = refl

length_placed : (x : ℕ) (ys : List ℕ) → length (placed nat_cmp x ys) ≡ suc (length ys)
length_placed x [] = refl
length_placed x (y ∷ ys) = by_order (is_lt (nat_cmp y x)) x y ys (placed nat_cmp x ys) (length_placed x ys)

length_sorted : (xs : List ℕ) → length (sorted nat_cmp xs) ≡ length xs
length_sorted [] = refl
length_sorted (x ∷ xs) = length_placed x (sorted nat_cmp xs) ∙ ap suc (length_sorted xs)

pub apart_short : (high : ℕ) (xs : List ℕ) → Pairs Other xs → Each (λ x. 1 ≤ x) xs → Each (λ x. x ≤ high) xs → length xs ≤ high
apart_short high xs p from to =
    let short = rising_short 1 high (sorted nat_cmp xs) (sorted_ascends xs p) (each_sorted (λ x. 1 ≤ x) xs from) (each_sorted (λ x. x ≤ high) xs to) (omega arith) in
    omega (arith, short, length_sorted xs)

-- ---- tests from facts

pub all_from : {X : Type 0} (t : X → Bool) (xs : List X) → Each (λ x. t x ≡ true) xs → list_all t xs ≡ true
all_from t [] a = refl
all_from t (x ∷ xs) a = and_from (t x) (list_all t xs) a.0 (all_from t xs a.1)

pub not_among : (n : ℕ) (ns : List ℕ) → (IsOneOf n ns → ⊥) → is_in ns n ≡ false
not_among n ns h =
    (elim (is_in ns n) as (λ b. is_in ns n ≡ b → b ≡ false) [
      | true ↦ λ e. (let r = some_passes _ ns e in absurd (h (subst (λ m. IsOneOf m ns) (sym (equal_numbers n r.0 r.2)) r.1)))
      | false ↦ λ e. refl
    ]) refl

pub pairs_apart : (ns : List ℕ) → Pairs Other ns → are_apart ns ≡ true
pairs_apart [] p = refl
pairs_apart (n ∷ ns) p = and_from (not (is_in ns n)) (are_apart ns) (ap not (not_among n ns (none_of n ns p.0))) (pairs_apart ns p.1)

pub word : (n : ℕ) → n ≤ 4294967295 → is_word n ≡ true
word n le = le-leb (suc n) (2 ^ 32) (omega (arith, le))

-- ---- the entries of a catalog

pub named_segments : (l : StoreLists) → segments_of (named_lists l) ≡ list_numbers l
named_segments l = ap (λ k. numbers (l.extents).chunks ++ k) (flat_map-map (λ (e : ListEntry). e.segments) named l.fields)

pub ids_rising : (s : Schema) → keeps_rules s ≡ true → (ids : List ℕ) → ids ≡ sorted nat_cmp (indexed_ids s.classes) → Pairs Below ids
ids_rising s rules ids is = subst (Pairs Below) (sym is) (sorted_ascends (indexed_ids s.classes) (ids_apart s rules))

pub among_is : (n : ℕ) (ns : List ℕ) → is_in ns n ≡ true → IsOneOf n ns
among_is n ns e = let r = some_passes _ ns e in subst (λ m. IsOneOf m ns) (sym (equal_numbers n r.0 r.2)) r.1

segments_small : (ns : List ℕ) → Pairs Other ns → Each IsSegmentNumber ns → are_many is_word ns ≡ true
segments_small ns p range =
    let short = apart_short 2147483646 ns p (each_more IsSegmentNumber (λ n. 1 ≤ n) ns (λ n r. omega (arith, r.0)) range) (each_more IsSegmentNumber (λ n. n ≤ 2147483646) ns (λ n r. r.1) range) in
    and_from (is_word (length ns)) (list_all is_word ns) (word (length ns) (omega (arith, short))) (all_from is_word ns (each_more IsSegmentNumber (λ n. is_word n ≡ true) ns (λ n r. word n (omega (arith, r.1))) range))

entries_small : (es : List ListEntry) → Each (λ n. n ≤ 4294967295) (map (λ (e : ListEntry). e.id) es) → Pairs Other (segments_of es) → Each IsSegmentNumber (segments_of es) → list_all is_entry es ≡ true
entries_small [] ids p range = refl
entries_small (e ∷ es) ids p range =
    and_from (is_entry e) (list_all is_entry es)
    (and_from (is_word e.id) (are_many is_word e.segments) (word e.id ids.0) (segments_small e.segments (pairs_front Other e.segments (segments_of es) p) (each_front IsSegmentNumber e.segments (segments_of es) range)))
    (entries_small es ids.1 (pairs_rest Other e.segments (segments_of es) p) (each_rest IsSegmentNumber e.segments (segments_of es) range))

module _ (s : Schema) (rules : keeps_rules s ≡ true) where
  abbrev IsDrawn : ℕ → Type 0
  IsDrawn n = (1 ≤ n) × (n ≤ 4294967294)

  drawn_one : (f : FieldDef) → IsOneOf f (all_fields s) → IsDrawn f.id
  drawn_one f one =
      let r = rules_kept s rules in
      let each = and_parts (nat_le 1 s.next_field) (list_all (λ (g : FieldDef). nat_le 1 g.id && nat_lt g.id s.next_field) (all_fields s)) r.drawn in
      let both = and_parts (nat_le 1 f.id) (nat_lt f.id s.next_field) (all_pass (λ (g : FieldDef). nat_le 1 g.id && nat_lt g.id s.next_field) f (all_fields s) each.1 one) in
      let low = leb-true 1 f.id both.0 in
      let high = leb-true (suc f.id) s.next_field both.1 in
      let most = leb-true s.next_field 4294967295 (limits_kept s r.within).ids in
      (low, omega (arith, high, most))

  ids_drawn : Each IsDrawn (indexed_ids s.classes)
  ids_drawn = each_of IsDrawn (indexed_ids s.classes) (λ n i.
      let f = from_map (λ (g : FieldDef). g.id) n (filter (λ (g : FieldDef). g.indexed) (all_fields s)) i in
      subst IsDrawn (sym f.2) (drawn_one f.0 (from_filter (λ (g : FieldDef). g.indexed) f.0 (all_fields s) f.1).0))

  -- the lists of a schema whose segments have numbers of their own
  module _ (l : StoreLists) (ids : map (λ f. f.0) l.fields ≡ sorted nat_cmp (indexed_ids s.classes)) (apart : Pairs Other (list_numbers l)) (range : Each IsSegmentNumber (list_numbers l)) where
    abbrev es : List ListEntry
    es = named_lists l

    names_ids : (fs : List (ℕ × FieldList)) → map (λ (e : ListEntry). e.id) (map named fs) ≡ map (λ (f : ℕ × FieldList). f.0) fs
    names_ids [] = refl
    names_ids (f ∷ fs) = ap (λ k. f.0 ∷ k) (names_ids fs)

    segments_are : segments_of es ≡ list_numbers l
    segments_are = named_segments l

    ids_listed : map (λ (e : ListEntry). e.id) es ≡ list_ids s.classes
    ids_listed = ap (λ k. 0 ∷ k) (names_ids l.fields ∙ ids) ∙ sym ids_are'
      where
        ids_are' : list_ids s.classes ≡ 0 ∷ sorted nat_cmp (indexed_ids s.classes)
        ids_are' = ids_are s rules

    few_fields : length (map named l.fields) ≤ 4294967294
    few_fields =
        let drawn = ids_drawn in
        let short = apart_short 4294967294 (indexed_ids s.classes) (ids_apart s rules) (each_more IsDrawn (λ n. 1 ≤ n) (indexed_ids s.classes) (λ n d. d.0) drawn) (each_more IsDrawn (λ n. n ≤ 4294967294) (indexed_ids s.classes) (λ n d. d.1) drawn) in
        omega (arith, short, length-map l.fields named, length-map l.fields (λ (f : ℕ × FieldList). f.0), ap length ids, length_sorted (indexed_ids s.classes))

    small_ids : Each (λ n. n ≤ 4294967295) (map (λ (e : ListEntry). e.id) es)
    small_ids = (omega arith, subst (Each (λ n. n ≤ 4294967295)) (sym (names_ids l.fields ∙ ids)) (each_sorted (λ n. n ≤ 4294967295) (indexed_ids s.classes) (each_more IsDrawn (λ n. n ≤ 4294967295) (indexed_ids s.classes) (λ n d. omega (arith, d.1)) ids_drawn)))

    pub lists_named : AreLists s es
    lists_named = record {
      small = and_from (is_word (length es)) (list_all is_entry es) (word (length es) (omega (arith, few_fields))) (entries_small es small_ids (subst (Pairs Other) (sym segments_are) apart) (subst (Each IsSegmentNumber) (sym segments_are) range));
      ids = ids_listed;
      from_2 = all_from (nat_le 2) (segments_of es) (subst (Each (λ n. nat_le 2 n ≡ true)) (sym segments_are) (each_more IsSegmentNumber (λ n. nat_le 2 n ≡ true) (list_numbers l) (λ n r. le-leb 2 n r.0) range));
      once = ap are_apart segments_are ∙ pairs_apart (list_numbers l) apart;
    }
