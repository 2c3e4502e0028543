-- Slots that spell the outline and the records of a store spell the store.
use Rattle.std.proofs.Common.{◌≡◌, ◌⊎◌, inl, inr, ◌∙◌, ap, sym, refl, subst, ℕ, ◌≤◌, true, List, [], ◌∷◌, map, None, arith}
use Rattle.std.specs.Prelude.{IsSomeAnd}
use Rattle.oc_model.specs.declared.value.Base.{Base}
use Rattle.oc_model.specs.declared.value.Rec.{Rec}
use Rattle.oc_model.specs.declared.schema.FieldDef.{FieldDef}
use Rattle.oc_model.specs.Lengths.{indexed_fields}
use Rattle.oc_model.specs.Lists.{IsOneOf}
use Rattle.oc_model.specs.Maps.{at, Map}
use Rattle.oc_model.specs.SchemaRules.{keeps_rules}
use Rattle.oc_model.specs.Stores.{base_of, empty_store, Store}
use Rattle.oc_chunks.specs.Ascending.{Each}
use Rattle.oc_chunks.specs.Chunks.{joined, numbers}
use Rattle.oc_chunks.proofs.Views.{each_member}
use Rattle.oc_index.specs.declared.items.ExtentItem.{ExtentItem}
use Rattle.oc_index.specs.Fields.{FieldList}
use Rattle.oc_index.specs.Indexed.{StoreLists}
use Rattle.oc_index.specs.Items.{extent_cmp, index_cmp}
use Rattle.oc_catalog.specs.Catalogs.{SpellsCatalog}
use Rattle.oc_catalog.specs.declared.catalog.ListEntry.{ListEntry}
use Rattle.oc_slots.specs.Maps.{SlotMap}
use Rattle.oc_lists.specs.Keeping.{extent_suits}
use Rattle.oc_lists.specs.Lists.{bases_in, entries_of, extents_of, HasLists}
use Rattle.oc_store.specs.Filed.{IsHeading, IsStoreOf}
use Rattle.oc_store.specs.Listed.{index_suits}
use Rattle.oc_store.specs.Lists.{system_slot, HasList, IsListOf, SpellsExtents, SpellsIndex}
use Rattle.oc_store.specs.Outlines.{named, named_lists, IsBare, IsIndex, IsOutline}
use Rattle.oc_store.specs.Sides.{Heading}
use Rattle.oc_store.specs.Stands.{object_slot, HasCatalog, Spells, SpellsObject}
use Rattle.oc_store.proofs.Fresh.{each_both, one_among, one_base}
use Rattle.oc_store.proofs.NamedLists.{each_map, fields_apart, fields_drawn}
use Rattle.oc_store.proofs.OneList.{all_kept, one_extents, one_index}

no_records : (m : Map Rec) → map {B = ExtentItem} (λ (e : ℕ × Rec). record { number = e.0; class = (e.1).class }) m ≡ [] → m ≡ []
no_records [] e = refl
no_records (r ∷ m) e = cc

some_id : (id : ℕ) (b : Base) (fs : List FieldDef) → Each (λ (f : FieldDef). 1 ≤ f.id) fs → IsOneOf {X = ℕ × Base} (id, b) (map (λ (f : FieldDef). (f.id, base_of f.kind)) fs) → 1 ≤ id
some_id id b [] drawn one = absurd one
some_id id b (f ∷ fs) drawn (inl same) = subst (λ n. 1 ≤ n) (sym (ap (λ p. p.0) same)) drawn.0
some_id id b (f ∷ fs) drawn (inr later) = some_id id b fs drawn.1 later

module _ (first : ℕ) (m : SlotMap) (h : Heading) (l : StoreLists) (s : Store) (outline : IsOutline first m h.next h.schema l) (is : IsStoreOf m h l s) where
  schema_is : h.schema ≡ s.schema
  schema_is = (is.heading).schema

  rules : keeps_rules h.schema ≡ true
  rules = subst (λ t. keeps_rules t ≡ true) (sym schema_is) (is.keeps).schema

  index_is : (f : ℕ × FieldList) → IsIndex m h.schema f → IsOneOf f l.fields → IsListOf m s (named f)
  index_is f own one = record {
    extents = λ zero. let low = some_id f.0 (f.1).base (indexed_fields h.schema) (fields_drawn h.schema rules) own.base in absurd (omega (arith, low, zero));
    index = λ g among same.
        (let base : (f.1).base ≡ base_of g.kind =
        one_base (indexed_fields s.schema) (fields_apart s.schema (is.keeps).schema) g (f.1).base among
        (subst (λ t. IsOneOf {X = ℕ × Base} (g.id, (f.1).base) (bases_in t)) schema_is (subst (λ i. IsOneOf {X = ℕ × Base} (i, (f.1).base) (bases_in h.schema)) same own.base)) in
        let entries : joined (f.1).chunks ≡ entries_of s g = (is.lists).indexes g among f.1 (subst (λ i. IsOneOf {X = ℕ × FieldList} (i, f.1) l.fields) same one) in
        subst (λ b. HasList (SpellsIndex b) m (numbers (f.1).chunks) (entries_of s g)) base
        (record {
          chunks = (f.1).chunks;
          numbered = refl;
          kept = all_kept (SpellsIndex (f.1).base) (one_index (f.1).base) m index_cmp (index_suits h.schema) [] (f.1).chunks own.sound;
          whole = entries;
        }));
  }

  lists_are : Each (IsListOf m s) (named_lists l)
  lists_are = (
    record {
      extents = λ _. record {
        chunks = (l.extents).chunks;
        numbered = refl;
        kept = all_kept SpellsExtents one_extents m extent_cmp (extent_suits h.schema) [] (l.extents).chunks outline.extents;
        whole = (is.lists).extents;
      };
      index = λ f among zero. let low = one_among (λ (g : FieldDef). 1 ≤ g.id) (indexed_fields s.schema) f (fields_drawn s.schema (is.keeps).schema) among in absurd (omega (arith, low, zero));
    },
    each_map named (IsListOf m s) l.fields (each_both (IsIndex m h.schema) (λ f. IsOneOf f l.fields) (λ f. IsListOf m s (named f)) l.fields index_is outline.fields (each_member l.fields)),
  )

  pub outline_spells : Spells first m s
  outline_spells = record { keeps = is.keeps; objects = is.objects; catalog = by_catalog outline.catalog }
    where
      by_catalog : IsSomeAnd (m (system_slot 1)) (SpellsCatalog (record { next = h.next; schema = h.schema; lists = named_lists l })) ⊎ IsBare first m h.next h.schema l → HasCatalog m s ⊎ ((m (system_slot 1) ≡ None) × (s ≡ empty_store first))
      by_catalog (inl spelled) = inl (record {
        lists = named_lists l;
        spelled = subst (λ c. IsSomeAnd (m (system_slot 1)) (SpellsCatalog c)) (λ i. record { next = (is.heading).next i; schema = (is.heading).schema i; lists = named_lists l }) spelled;
        each = lists_are;
      })
      by_catalog (inr bare) =
          let none : s.records ≡ [] = no_records s.records (sym (is.lists).extents ∙ ap joined bare.extents) in
          inr (bare.none, λ i. record { schema = (sym (is.heading).schema ∙ bare.schema) i; next = (sym (is.heading).next ∙ bare.begins) i; records = none i })
