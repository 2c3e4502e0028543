-- The lists of a store ascend, and the extents name classes of its schema.
use Rattle.std.proofs.Common.{◌≡◌, ◌≢◌, ◌∙◌, ap, sym, refl, subst, ℕ, ◌<◌, Bool, true, false, cond, List, [], ◌∷◌, map, filter, Some, IsTrue, arith}
use Rattle.std.specs.List.{list_all}
use Rattle.std.specs.Ordering.{is_lt, nat_cmp, ordering_reverse}
use Rattle.std.specs.declared.cmp.Ordering.{Ordering}
use Rattle.std.specs.declared.cmp.Ordering.TheVariants.{Less, Equal, Greater}
use Rattle.std.specs.Cmp.{nat_cmp_is, IsTotalOrder}
use Rattle.std.specs.FinMap.Entries.{below_all, is_sorted}
use Rattle.std.proofs.lemmas.Bool.{and_from}
use Rattle.oc_model.specs.declared.value.Rec.{Rec}
use Rattle.oc_model.specs.declared.schema.FieldDef.{FieldDef}
use Rattle.oc_model.specs.Lists.{placed, sorted}
use Rattle.oc_model.specs.Maps.{Map, at}
use Rattle.oc_model.specs.Schemas.{Schema}
use Rattle.oc_model.specs.Stores.{Store}
use Rattle.oc_model.specs.StoreRules.{KeepsStore, Suits}
use Rattle.oc_model.proofs.Elements.{both_true}
use Rattle.oc_chunks.specs.Ascending.{Each, IsAscending}
use Rattle.oc_chunks.proofs.Eaches.{each_more}
use Rattle.oc_index.specs.declared.items.ExtentItem.{ExtentItem}
use Rattle.oc_index.specs.Items.{extent_cmp, index_cmp}
use Rattle.oc_index.specs.Totals.{index_total}
use Rattle.oc_index.proofs.Ordered.{lt_of}
use Rattle.oc_lists.specs.Keeping.{extent_suits}
use Rattle.oc_lists.specs.Lists.{entries_of, extents_of}
use Rattle.oc_lists.proofs.Entries.{apart, is_list, item, passes}
use Rattle.oc_lists.proofs.OneRecord.{found_first, found_later}
use Rattle.oc_lists.proofs.Placing.{each_placed, each_sorted}
use Rattle.oc_store.proofs.Fresh.{each_both}

-- ---- elements in order

module _ {X : Type 0} (cmp : X → X → Ordering) (total : IsTotalOrder cmp) where
  -- one more that is equal to none
  placed_ascends : (x : X) (ys : List X) → IsAscending cmp ys → Each (λ y. ¬ (cmp y x ≡ Equal)) ys → IsAscending cmp (placed cmp x ys)
  placed_ascends x [] up off = (tt, tt)
  placed_ascends x (y ∷ ys) up off =
      (elim (cmp y x) as (λ o. cmp y x ≡ o → IsAscending cmp (cond (is_lt o) (y ∷ placed cmp x ys) (x ∷ y ∷ ys))) [
        | Less ↦ λ e. (each_placed cmp (λ z. cmp y z ≡ Less) x ys e up.0, placed_ascends x ys up.1 off.1)
        | Equal ↦ λ e. absurd (off.0 e)
        | Greater ↦ λ e. let below : cmp x y ≡ Less = total.antisymm x y ∙ ap ordering_reverse e in ((below, each_more (λ z. cmp y z ≡ Less) (λ z. cmp x z ≡ Less) ys (λ z after. total.trans x y z below after) up.0), up)
      ]) refl

-- ---- the keys of a map ascend

each_below : {V : Type 0} (n : ℕ) (m : Map V) → below_all nat_cmp n m ≡ true → Each (λ (e : ℕ × V). n < e.0) m
each_below n [] below = tt
each_below n (e ∷ m) below = let parts = both_true (is_lt (nat_cmp n e.0)) (below_all nat_cmp n m) below in (lt_of n e.0 parts.0, each_below n m parts.1)

-- each entry is found under its key
each_found : {V : Type 0} (m : Map V) → is_sorted nat_cmp m ≡ true → Each (λ (e : ℕ × V). at m e.0 ≡ Some e.1) m
each_found [] up = tt
each_found {V} (e ∷ m) up =
    let parts = both_true (below_all nat_cmp e.0 m) (is_sorted nat_cmp m) up in (
      found_first e.0 e m refl,
      each_both (λ (d : ℕ × V). at m d.0 ≡ Some d.1) (λ (d : ℕ × V). e.0 < d.0) (λ (d : ℕ × V). at (e ∷ m) d.0 ≡ Some d.1) m (λ d there lt. found_later d.0 e m (λ same. absurd (omega (arith, same, lt))) ∙ there) (each_found m parts.1) (each_below e.0 m parts.0),
    )

-- ---- the list of all objects

abbrev extent : ℕ × Rec → ExtentItem
extent e = record { number = e.0; class = (e.1).class }

extents_up : (m : Map Rec) → is_sorted nat_cmp m ≡ true → IsAscending extent_cmp (map extent m)
extents_up [] up = tt
extents_up (e ∷ m) up =
    let parts = both_true (below_all nat_cmp e.0 m) (is_sorted nat_cmp m) up in
    (above m (each_below e.0 m parts.0), extents_up m parts.1)
  where
    above : (ds : Map Rec) → Each (λ (d : ℕ × Rec). e.0 < d.0) ds → Each (λ x. extent_cmp (extent e) x ≡ Less) (map extent ds)
    above [] each = tt
    above (d ∷ ds) each = (sym (nat_cmp_is e.0 d.0 Less each.0), above ds each.1)

pub extents_ascend : (s : Store) → KeepsStore s → IsAscending extent_cmp (extents_of s)
extents_ascend s keeps = extents_up s.records keeps.by_number

listed : (schema : Schema) (m : Map Rec) → Each (λ (e : ℕ × Rec). Suits schema e.1) m → IsTrue (list_all (extent_suits schema) (map extent m))
listed schema [] each = refl
listed schema (e ∷ m) each = and_from (extent_suits schema (extent e)) (list_all (extent_suits schema) (map extent m)) (each.0).class (listed schema m each.1)

pub extents_suit : (s : Store) → KeepsStore s → IsTrue (list_all (extent_suits s.schema) (extents_of s))
extents_suit s keeps =
    listed s.schema s.records
    (each_more (λ (e : ℕ × Rec). at s.records e.0 ≡ Some e.1) (λ (e : ℕ × Rec). Suits s.schema e.1) s.records (λ e found. keeps.suit e.0 e.1 found) (each_found s.records keeps.by_number))

-- ---- the index of a field

module _ (s : Store) (f : FieldDef) where
  others : (e : ℕ × Rec) (m : Map Rec) → Each (λ (d : ℕ × Rec). e.0 < d.0) m → Each (λ x. ¬ (index_cmp x (item s f e) ≡ Equal)) (map (item s f) (filter (passes s f) m))
  others e [] below = tt
  others e (d ∷ m) below =
      elim (passes s f d) as (λ b. Each (λ x. ¬ (index_cmp x (item s f e) ≡ Equal)) (map (item s f) (cond b (d ∷ filter (passes s f) m) (filter (passes s f) m)))) [
        | true ↦ (apart s f d e (λ same. let lt = below.0 in absurd (omega (arith, same, lt))), others e m below.1)
        | false ↦ others e m below.1
      ]

  in_order_up : (m : Map Rec) → is_sorted nat_cmp m ≡ true → IsAscending index_cmp (sorted index_cmp (map (item s f) (filter (passes s f) m)))
  in_order_up [] up = tt
  in_order_up (e ∷ m) up =
      let parts = both_true (below_all nat_cmp e.0 m) (is_sorted nat_cmp m) up in
      let rest = in_order_up m parts.1 in
      elim (passes s f e) as (λ b. IsAscending index_cmp (sorted index_cmp (map (item s f) (cond b (e ∷ filter (passes s f) m) (filter (passes s f) m))))) [
        | true ↦ placed_ascends index_cmp index_total (item s f e) (sorted index_cmp (map (item s f) (filter (passes s f) m))) rest (each_sorted index_cmp (λ x. ¬ (index_cmp x (item s f e) ≡ Equal)) (map (item s f) (filter (passes s f) m)) (others e m (each_below e.0 m parts.0)))
        | false ↦ rest
      ]

  pub entries_ascend : KeepsStore s → IsAscending index_cmp (entries_of s f)
  entries_ascend keeps = subst (IsAscending index_cmp) (sym (is_list s f s.next s.records)) (in_order_up s.records keeps.by_number)
