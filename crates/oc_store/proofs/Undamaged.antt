-- Nothing is damaged in slots that spell a store.
use Rattle.std.proofs.Common.{◌≡◌, ◌⊎◌, inl, inr, ⊎_elim, ◌∙◌, ap, sym, refl, subst, ℕ, Bool, true, IsTrue, List, [], ◌∷◌, ◌++◌, map, Option, Some, None, is_some, option_map, append_assoc, ◌<◌, false}
use Rattle.std.specs.Prelude.{IsSomeAnd}
use Rattle.std.specs.List.{list_all, list_any}
use Rattle.std.proofs.lemmas.Bool.{true≢false}
use Rattle.std.specs.declared.cmp.Ordering.{Ordering}
use Rattle.std.specs.declared.cmp.Ordering.TheVariants.{Less}
use Rattle.std.proofs.lemmas.List.Folds.{list_all-append}
use Rattle.oc_model.specs.declared.value.Base.{Base}
use Rattle.oc_model.specs.declared.value.Rec.{Rec}
use Rattle.oc_model.specs.declared.schema.FieldDef.{FieldDef}
use Rattle.oc_model.specs.Lengths.{indexed_fields}
use Rattle.oc_model.specs.Lists.{IsOneOf}
use Rattle.oc_model.specs.Maps.{at}
use Rattle.oc_model.specs.Schemas.{Schema}
use Rattle.oc_model.specs.Stores.{base_of, empty_store, Store}
use Rattle.oc_model.specs.StoreRules.{KeepsStore}
use Rattle.oc_model.proofs.Elements.{both_true}
use Rattle.oc_catalog.specs.declared.catalog.Catalog.{Catalog}
use Rattle.oc_catalog.specs.declared.catalog.ListEntry.{ListEntry}
use Rattle.oc_catalog.specs.Catalogs.{SpellsCatalog}
use Rattle.oc_chunks.specs.Ascending.{Each, IsAscending}
use Rattle.oc_chunks.specs.Chunks.{joined, numbers, Chunk}
use Rattle.oc_chunks.proofs.Eaches.{each_rest, pairs_front}
use Rattle.oc_index.specs.declared.items.IndexItem.{IndexItem}
use Rattle.oc_index.specs.Indexed.{StoreLists}
use Rattle.oc_index.specs.Items.{extent_cmp, index_cmp}
use Rattle.oc_index.specs.Ranges.{is_numbered}
use Rattle.oc_lists.specs.Keeping.{extent_suits}
use Rattle.oc_lists.specs.Lists.{entries_of, extents_of, HasLists}
use Rattle.oc_slots.specs.Maps.{SlotMap}
use Rattle.oc_store.specs.Listed.{index_suits}
use Rattle.oc_store.specs.Lists.{chunk_kept, system_slot, AreNext, HasList, HasSegment, IsDamagedAt, IsKept, IsListOf, SpellsExtents, SpellsIndex}
use Rattle.oc_store.specs.Outlines.{has_slot, named_lists, HasDamagedSegment, HasJust, HasNoCatalog, HasOthers, IsBare, IsDamaged, IsDamagedIn, IsOutline}
use Rattle.oc_store.specs.Stands.{object_slot, HasCatalog, Spells, SpellsObject}
use Rattle.oc_store.proofs.AscendingLists.{entries_ascend, extents_ascend, extents_suit}
use Rattle.oc_store.proofs.Classes.{class_is}
use Rattle.oc_store.proofs.Fresh.{found_some, outline_of}
use Rattle.oc_store.proofs.OneList.{all_kept, number_first, one_extents, one_index, same_there}
use Rattle.oc_store.proofs.OneStore.{none_there, one_catalog_there}

-- ---- no segment of a list that is spelled is damaged

module _ {X : Type 0} (Spelled : List X → List ℕ → Type 0) (only : (b : List ℕ) (xs ys : List X) → Spelled xs b → Spelled ys b → xs ≡ ys) (m : SlotMap) where
  -- the segment behind the first ones of a list, with its entries and those behind
  record Behind (all before : List X) (n : ℕ) : Type 0 where
    entries : List X
    rest : List X
    spelled : HasSegment Spelled m n entries
    whole : all ≡ before ++ (entries ++ rest)

  segment_behind : (ks cs : List (Chunk X)) (n : ℕ) (behind : List ℕ) → Each (IsKept Spelled m) ks → Each (IsKept Spelled m) cs → numbers ks ≡ numbers cs ++ n ∷ behind → Behind (joined ks) (joined cs) n
  segment_behind [] [] n behind a b e = let clash : [] ≡ n ∷ behind = e in absurd cc
  segment_behind [] (c ∷ cs) n behind a b e = let clash : [] ≡ (b.0).number ∷ (numbers cs ++ n ∷ behind) = e ∙ ap (λ l. l ++ n ∷ behind) (number_first Spelled only m c cs (b.0).number (b.0).is) in absurd cc
  segment_behind (k ∷ ks) [] n behind a b e =
      let h : (a.0).number ∷ numbers ks ≡ n ∷ behind = sym (number_first Spelled only m k ks (a.0).number (a.0).is) ∙ e in
      let number : (a.0).number ≡ n = cc in
      record { entries = k.entries; rest = joined ks; spelled = subst (λ i. HasSegment Spelled m i k.entries) number (a.0).spelled; whole = refl }
  segment_behind (k ∷ ks) (c ∷ cs) n behind a b e =
      let h : (a.0).number ∷ numbers ks ≡ (b.0).number ∷ (numbers cs ++ n ∷ behind) =
      sym (number_first Spelled only m k ks (a.0).number (a.0).is) ∙ e ∙ ap (λ l. l ++ n ∷ behind) (number_first Spelled only m c cs (b.0).number (b.0).is) in
      let number : (a.0).number ≡ (b.0).number = cc in
      let later : numbers ks ≡ numbers cs ++ n ∷ behind = cc in
      let first : k.entries ≡ c.entries = same_there Spelled only m (m (system_slot (a.0).number)) k.entries c.entries (a.0).spelled (subst (λ i. IsSomeAnd (m (system_slot i)) (Spelled c.entries)) (sym number) (b.0).spelled) in
      let r = segment_behind ks cs n behind a.1 b.1 later in
      record { entries = r.entries; rest = r.rest; spelled = r.spelled; whole = (λ i. first i ++ r.whole i) ∙ sym (append_assoc c.entries (joined cs) (r.entries ++ r.rest)) }

  -- the entries in the middle pass where all do
  middle_all : (p : X → Bool) (xs ys zs : List X) → IsTrue (list_all p (xs ++ (ys ++ zs))) → IsTrue (list_all p ys)
  middle_all p xs ys zs all =
      let rest = (both_true (list_all p xs) (list_all p (ys ++ zs)) (sym (list_all-append p xs (ys ++ zs)) ∙ all)).1 in
      (both_true (list_all p ys) (list_all p zs) (sym (list_all-append p ys zs) ∙ rest)).0

  undamaged_list : (cmp : X → X → Ordering) (suits : X → Bool) (segments : List ℕ) (n : ℕ) (all : List X) → HasList Spelled m segments all → IsTrue (list_all suits all) → IsAscending cmp all → IsDamagedAt Spelled m cmp suits segments n → ⊥
  undamaged_list cmp suits segments n all list suit up d =
      let r = segment_behind list.chunks d.chunks n d.behind list.kept (all_kept Spelled only m cmp suits [] d.chunks d.sound) (list.numbered ∙ d.numbered) in
      let whole : all ≡ joined d.chunks ++ (r.entries ++ r.rest) = sym list.whole ∙ r.whole in
      d.damaged r.entries (record {
        kept = record { number = n; is = refl; spelled = r.spelled };
        suit = middle_all suits (joined d.chunks) r.entries r.rest (subst (λ l. IsTrue (list_all suits l)) whole suit);
        above = pairs_front (λ x y. cmp x y ≡ Less) (joined d.chunks ++ r.entries) r.rest (subst (IsAscending cmp) (whole ∙ sym (append_assoc (joined d.chunks) r.entries r.rest)) up);
      })

-- ---- the lists of a store

every : (schema : Schema) (es : List IndexItem) → IsTrue (list_all (index_suits schema) es)
every schema [] = refl
every schema (e ∷ es) = every schema es

-- the field of an indexed id
record FieldOf (fs : List FieldDef) (id : ℕ) (b : Base) : Type 0 where
  field : FieldDef
  one : IsOneOf field fs
  id_is : id ≡ field.id
  base_is : b ≡ base_of field.kind

field_of : (fs : List FieldDef) (id : ℕ) (b : Base) → IsOneOf {X = ℕ × Base} (id, b) (map (λ f. (f.id, base_of f.kind)) fs) → FieldOf fs id b
field_of [] id b one = absurd one
field_of (f ∷ fs) id b (inl same) = record { field = f; one = inl refl; id_is = ap (λ p. p.0) same; base_is = ap (λ p. p.1) same }
field_of (f ∷ fs) id b (inr later) = let r = field_of fs id b later in record { field = r.field; one = inr r.one; id_is = r.id_is; base_is = r.base_is }

module _ (m : SlotMap) (s : Store) where
  undamaged_in : (list : ListEntry) (n : ℕ) (k : KeepsStore s) → IsListOf m s list → IsDamagedIn m s.schema list n → ⊥
  undamaged_in list n k is (inl d) =
      undamaged_list SpellsExtents one_extents m extent_cmp (extent_suits s.schema) list.segments n (extents_of s) (is.extents d.0) (extents_suit s k) (extents_ascend s k) d.1
  undamaged_in list n k is (inr d) =
      let f = field_of (indexed_fields s.schema) list.id d.0 (d.1) in
      undamaged_list (SpellsIndex d.0) (one_index d.0) m index_cmp (index_suits s.schema) list.segments n (entries_of s f.field)
      (subst (λ b. HasList (SpellsIndex b) m list.segments (entries_of s f.field)) (sym f.base_is) (is.index f.field f.one f.id_is))
      (every s.schema (entries_of s f.field)) (entries_ascend s f.field k) (d.2)

-- ---- the objects that have a slot

same_some : (o : Option (List ℕ)) (r : Option Rec) → SpellsObject o r → is_some o ≡ is_some r
same_some None None h = refl
same_some None (Some r) h = absurd h
same_some (Some b) None h = absurd h
same_some (Some b) (Some r) h = refl

class_some : (r : Option Rec) → is_some r ≡ is_some (option_map (λ (x : Rec). x.class) r)
class_some None = refl
class_some (Some r) = refl

none_any : (o : Option Rec) (n : ℕ) → is_some o ≡ true → (r : Rec) × (o ≡ Some r)
none_any None n e = absurd cc
none_any (Some r) n e = (r, refl)

module _ (first : ℕ) (m : SlotMap) (s : Store) (spells : Spells first m s) where
  there : (n : ℕ) → has_slot m n ≡ is_some (at s.records n)
  there n = same_some (m (object_slot n)) (at s.records n) (spells.objects n)

  just : (next : ℕ) (l : StoreLists) → next ≡ s.next → HasLists l s → HasJust (has_slot m) (joined (l.extents).chunks) next
  just next l begins lists = record {
    listed = λ n. there n ∙ class_some (at s.records n) ∙ ap is_some (sym (class_is s (joined (l.extents).chunks) n lists.extents)) ∙ found_some (is_numbered n) (joined (l.extents).chunks);
    below = λ n has. let r = none_any (at s.records n) n (sym (there n) ∙ has) in subst (λ k. n < k) (sym begins) (spells.keeps.below_next n r.0 r.1);
  }

  -- there is a catalog where one is asked for
  catalog_of : (P : List ℕ → Type 0) → IsSomeAnd (m (system_slot 1)) P → HasCatalog m s
  catalog_of P some = ⊎_elim (λ h. h) (λ bare. absurd (none_there P (m (system_slot 1)) bare.0 some)) spells.catalog

  no_catalog : HasNoCatalog m → ⊥
  no_catalog none = both (m (system_slot 1)) (catalog_of _ none).spelled none
    where
      both : (o : Option (List ℕ)) → IsSomeAnd o (SpellsCatalog (record { next = s.next; schema = s.schema; lists = (catalog_of _ none).lists })) → IsSomeAnd o (λ b. (c : Catalog) → SpellsCatalog c b → ⊥) → ⊥
      both None a b = a
      both (Some x) a b = b _ a

  no_segment : (n : ℕ) → HasDamagedSegment m n → ⊥
  no_segment n d =
      let h = catalog_of _ d.spelled in
      let e = one_catalog_there (m (system_slot 1)) _ _ d.spelled h.spelled in
      let g = d.segment in
      let each : Each (IsListOf m s) (g.before ++ g.list ∷ g.behind) = subst (Each (IsListOf m s)) (sym (ap (λ c. c.lists) e) ∙ g.split) h.each in
      undamaged_in m s g.list n spells.keeps (each_rest (IsListOf m s) g.before (g.list ∷ g.behind) each).0 (subst (λ t. IsDamagedIn m t g.list n) (ap (λ c. c.schema) e) g.damaged)

  -- where nothing was ever committed no object has a slot
  just_bare : (f next : ℕ) (schema : Schema) (l : StoreLists) → IsBare f m next schema l → HasJust (has_slot m) (joined (l.extents).chunks) next
  just_bare f next schema l b =
      let empty : s ≡ empty_store first = ⊎_elim (λ h. absurd (none_there _ (m (system_slot 1)) b.none h.spelled)) (λ bare. bare.1) spells.catalog in
      let none : (n : ℕ) → has_slot m n ≡ false = λ n. there n ∙ ap (λ t. is_some (at t.records n)) empty in
      record {
        listed = λ n. none n ∙ ap (λ cs. list_any (is_numbered n) (joined cs)) (sym b.extents);
        below = λ n has. absurd (true≢false (sym has ∙ none n));
      }

  just_of : (f next : ℕ) (schema : Schema) (l : StoreLists) → IsOutline f m next schema l → IsSomeAnd (m (system_slot 1)) (SpellsCatalog (record { next = next; schema = schema; lists = named_lists l })) ⊎ IsBare f m next schema l → HasJust (has_slot m) (joined (l.extents).chunks) next
  just_of f next schema l o (inl x) =
      let is = outline_of first m next schema l s (record { catalog = inl x; extents = o.extents; fields = o.fields }) spells in
      just next l (is.0).next is.1
  just_of f next schema l o (inr b) = just_bare f next schema l b

  no_others : HasOthers m → ⊥
  no_others o = o.others (just_of o.first o.next o.schema o.lists o.outline o.outline.catalog)

  pub undamaged : (n : ℕ) → IsDamaged m n → ⊥
  undamaged n (inl d) = no_catalog d.1
  undamaged n (inr (inl d)) = no_segment n d
  undamaged n (inr (inr d)) = no_others d.1
