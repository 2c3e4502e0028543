-- What the change of one record makes of the lists of a store.
use Rattle.std.proofs.Common.{◌≡◌, ◌≢◌, ◌∙◌, ap, ap₂, sym, refl, ℕ, Bool, true, false, cond, not, ◌||◌, List, [], ◌∷◌, map, filter, None, Some, ◌==◌, inl, inr, T, arith}
use Rattle.std.specs.List.{list_any}
use Rattle.std.specs.Ordering.{is_eq, is_lt, nat_cmp, ordering_then}
use Rattle.std.specs.declared.cmp.Ordering.TheVariants.{Less, Equal, Greater}
use Rattle.std.specs.Cmp.{IsTotalOrder, nat_cmp_total, tied_itself}
use Rattle.std.specs.FinMap.Entries.{below_all, find-put, is_sorted-put, is_sorted-where_key, is_sorted}
use Rattle.std.proofs.lemmas.Bool.Decides.{eqb_tells}
use Rattle.std.proofs.lemmas.Cmp.{on_total}
use Rattle.std.proofs.lemmas.Map.Lookups.{exact_unsigned}
use Rattle.oc_model.specs.declared.value.Rec.{Rec}
use Rattle.oc_model.specs.declared.schema.FieldDef.{FieldDef}
use Rattle.oc_model.specs.declared.value.Atom.{Atom}
use Rattle.oc_model.specs.Candidates.{index_of, has_field}
use Rattle.oc_model.specs.Lists.{placed, sorted}
use Rattle.oc_model.specs.Maps.{Map, at, with_at}
use Rattle.oc_model.specs.Orders.{compare}
use Rattle.oc_model.specs.Stores.{Store}
use Rattle.oc_model.specs.StoreRules.{KeepsStore}
use Rattle.oc_model.proofs.Elements.{both_true}
use Rattle.oc_model.proofs.Reaching.{is_equal, of_true}
use Rattle.oc_chunks.specs.Ascending.{Each, entered, replaced}
use Rattle.oc_chunks.proofs.Eaches.{each_more}
use Rattle.oc_chunks.proofs.Looking.{filter_all}
use Rattle.oc_index.specs.declared.items.ExtentItem.{ExtentItem}
use Rattle.oc_index.specs.declared.items.IndexItem.{IndexItem}
use Rattle.oc_index.specs.Items.{extent_cmp, index_cmp}
use Rattle.oc_index.specs.Ranges.{is_entry, is_numbered}
use Rattle.oc_index.specs.Totals.{index_total}
use Rattle.oc_lists.specs.Lists.{extents_of, entries_of, key_in}
use Rattle.oc_lists.specs.Changing.{without_at}
use Rattle.oc_index.proofs.Ordered.{ge_is, lt_of}
use Rattle.oc_lists.proofs.Placing.{in_front, filter_placed, each_sorted}
use Rattle.oc_lists.proofs.OneRecord.{tied, untied, without_put, none_there, each_item, one_more, none_more, items, in_order}

-- ---- the store with one record changed

-- the store with this record of an object
abbrev pub store_with : ℕ → Rec → Store → Store
store_with n r s = record { schema = s.schema; next = s.next; records = with_at s.records n r }

-- the store without the object
abbrev pub store_without : ℕ → Store → Store
store_without n s = record { schema = s.schema; next = s.next; records = without_at n s.records }

pub is_true : (b : Bool) → T b → b ≡ true
is_true true it = refl
is_true false it = absurd it

pub still_sorted : (n : ℕ) (r : Rec) (m : Map Rec) → is_sorted nat_cmp m ≡ true → is_sorted nat_cmp (with_at m n r) ≡ true
still_sorted n r m up = is_true (is_sorted nat_cmp (with_at m n r)) (is_sorted-put nat_cmp nat_cmp_total n r m (of_true (is_sorted nat_cmp m) up))

pub without_sorted : (n : ℕ) (m : Map Rec) → is_sorted nat_cmp m ≡ true → is_sorted nat_cmp (without_at n m) ≡ true
without_sorted n m up = is_true (is_sorted nat_cmp (without_at n m)) (is_sorted-where_key nat_cmp (λ k. not (k == n)) m (of_true (is_sorted nat_cmp m) up))

pub found_put : (n : ℕ) (r : Rec) (m : Map Rec) → at (with_at m n r) n ≡ Some r
found_put n r m = find-put nat_cmp nat_cmp_total n n r m ∙ ap (λ b. cond b (Some r) (at m n)) (tied n n refl)

-- ---- the index of a field

same_number : (a b : IndexItem) → index_cmp a b ≡ Equal → a.number ≡ b.number
same_number a b e =
    exact_unsigned a.number b.number
    ((elim (compare a.key b.key) as (λ r. ordering_then r (nat_cmp a.number b.number) ≡ Equal → nat_cmp a.number b.number ≡ Equal) [
      | Less ↦ λ e. cc
      | Equal ↦ λ e. e
      | Greater ↦ λ e. cc
    ]) e)

other_entry : (key : Atom) (n : ℕ) (e : IndexItem) → e.number ≢ n → is_entry key n e ≡ false
other_entry key n e apart =
    (elim (is_entry key n e) as (λ b. is_entry key n e ≡ b → b ≡ false) [
      | true ↦ λ it. absurd (apart (same_number e (record { key = key; number = n }) (is_equal (index_cmp e (record { key = key; number = n })) it)))
      | false ↦ λ _. refl
    ]) refl

none_any : {X : Type 0} (p : X → Bool) (xs : List X) → Each (λ x. p x ≡ false) xs → list_any p xs ≡ false
none_any p [] each = refl
none_any p (x ∷ xs) each = ap (λ b. b || list_any p xs) each.0 ∙ none_any p xs each.1

fused : {X Y Z : Type 0} (g : Y → Z) (h : X → Y) (xs : List X) → map g (map h xs) ≡ map (λ x. g (h x)) xs
fused g h [] = refl
fused g h (x ∷ xs) = ap (λ l. g (h x) ∷ l) (fused g h xs)

module _ (s : Store) (f : FieldDef) where
  abbrev pub passes : ℕ × Rec → Bool
  passes e = has_field s.schema f (e.1).class

  abbrev pub item : ℕ × Rec → IndexItem
  item e = record { key = key_in f e.1; number = e.0 }

  abbrev pub list_of : Map Rec → List IndexItem
  list_of m = in_order index_cmp index_total passes item m

  pub is_list : (n : ℕ) (m : Map Rec) → entries_of (record { schema = s.schema; next = n; records = m }) f ≡ list_of m
  unfolding index_of
  is_list n m = ap (sorted index_cmp) (fused (λ (e : Atom × ℕ). record { key = e.0; number = e.1 }) (λ (e : ℕ × Rec). (key_in f e.1, e.0)) (filter passes m))

  pub apart : (d e : ℕ × Rec) → d.0 ≢ e.0 → ¬ (index_cmp (item d) (item e) ≡ Equal)
  apart d e other same = other (same_number (item d) (item e) same)

  others : (n : ℕ) (key : Atom) (m : Map Rec) → Each (λ e. is_entry key n e ≡ false) (list_of (without_at n m))
  others n key m =
      each_sorted index_cmp (λ e. is_entry key n e ≡ false) (items index_cmp index_total passes item (without_at n m))
      (each_item index_cmp index_total passes item (λ e. is_entry key n e ≡ false) n (λ e other. other_entry key n (item e) other) m)

  -- the object's own entry, and those of all others
  one_goes : (n : ℕ) (q : Rec) (m : Map Rec) → is_sorted nat_cmp m ≡ true → at m n ≡ Some q → passes (n, q) ≡ true → list_of (without_at n m) ≡ filter (λ e. not (is_entry (key_in f q) n e)) (list_of m)
  one_goes n q m up found it =
      let mine : IndexItem = item (n, q) in
      let staying : IndexItem → Bool = λ e. not (is_entry (key_in f q) n e) in
      sym
      (ap (filter staying) (one_more index_cmp index_total passes item apart n q it m up found)
      ∙ filter_placed index_cmp staying mine (list_of (without_at n m)) (ap (λ r. not (is_eq r)) (tied_itself index_total mine))
      ∙ filter_all staying (list_of (without_at n m)) (each_more (λ e. is_entry (key_in f q) n e ≡ false) (λ e. staying e ≡ true) (list_of (without_at n m)) (λ e off. ap not off) (others n (key_in f q) m)))

  pub one_comes : (n : ℕ) (r : Rec) (m : Map Rec) → is_sorted nat_cmp m ≡ true → passes (n, r) ≡ true → list_of (with_at m n r) ≡ entered index_cmp (record { key = key_in f r; number = n }) (list_of (without_at n m))
  one_comes n r m up it =
      let mine : IndexItem = item (n, r) in
      let before : List IndexItem = list_of (without_at n m) in
      one_more index_cmp index_total passes item apart n r it (with_at m n r) (still_sorted n r m up) (found_put n r m)
      ∙ ap (λ l. placed index_cmp mine (list_of l)) (without_put n r m)
      ∙ sym (ap (λ b. cond b before (placed index_cmp mine before)) (none_any (is_entry (key_in f r) n) before (others n (key_in f r) m)))

module _ (s : Store) (f : FieldDef) (keeps : KeepsStore s) (n : ℕ) where
  abbrev keyed : Rec → IndexItem
  keyed r = record { key = key_in f r; number = n }

  -- without the object
  pub index_gone : (q : Rec) → at s.records n ≡ Some q → has_field s.schema f q.class ≡ true → entries_of (store_without n s) f ≡ filter (λ e. not (is_entry (key_in f q) n e)) (entries_of s f)
  index_gone q found it =
      is_list s f s.next (without_at n s.records) ∙ one_goes s f n q s.records keeps.by_number found it ∙ ap (filter (λ e. not (is_entry (key_in f q) n e))) (sym (is_list s f s.next s.records))

  pub index_stays_without : (q : Rec) → at s.records n ≡ Some q → has_field s.schema f q.class ≡ false → entries_of (store_without n s) f ≡ entries_of s f
  index_stays_without q found off =
      is_list s f s.next (without_at n s.records) ∙ ap (sorted index_cmp) (sym (none_more index_cmp index_total (passes s f) (item s f) n q s.records off keeps.by_number found)) ∙ sym (is_list s f s.next s.records)

  pub index_without_none : at s.records n ≡ None → entries_of (store_without n s) f ≡ entries_of s f
  index_without_none off = ap (λ (m : Map Rec). entries_of (record { schema = s.schema; next = s.next; records = m }) f) (none_there n s.records off)

  -- with a record of the object
  pub index_with : (r : Rec) → has_field s.schema f r.class ≡ true → entries_of (store_with n r s) f ≡ entered index_cmp (keyed r) (entries_of (store_without n s) f)
  index_with r it = is_list s f s.next (with_at s.records n r) ∙ one_comes s f n r s.records keeps.by_number it ∙ ap (entered index_cmp (keyed r)) (sym (is_list s f s.next (without_at n s.records)))

  pub index_new : (r : Rec) → at s.records n ≡ None → has_field s.schema f r.class ≡ true → entries_of (store_with n r s) f ≡ entered index_cmp (keyed r) (entries_of s f)
  index_new r off it = index_with r it ∙ ap (entered index_cmp (keyed r)) (index_without_none off)

  pub index_replaced : (q r : Rec) → at s.records n ≡ Some q → has_field s.schema f q.class ≡ true → has_field s.schema f r.class ≡ true
      → entries_of (store_with n r s) f ≡ entered index_cmp (keyed r) (filter (λ e. not (is_entry (key_in f q) n e)) (entries_of s f))
  index_replaced q r found was it = index_with r it ∙ ap (entered index_cmp (keyed r)) (index_gone q found was)

  -- the class of the record has not the field
  pub index_off : (r : Rec) → has_field s.schema f r.class ≡ false → entries_of (store_with n r s) f ≡ entries_of (store_without n s) f
  index_off r off =
      is_list s f s.next (with_at s.records n r)
      ∙ ap (sorted index_cmp) (none_more index_cmp index_total (passes s f) (item s f) n r (with_at s.records n r) off (still_sorted n r s.records keeps.by_number) (found_put n r s.records) ∙ ap (items index_cmp index_total (passes s f) (item s f)) (without_put n r s.records))
      ∙ sym (is_list s f s.next (without_at n s.records))

  pub index_off_new : (r : Rec) → at s.records n ≡ None → has_field s.schema f r.class ≡ false → entries_of (store_with n r s) f ≡ entries_of s f
  index_off_new r none off = index_off r off ∙ index_without_none none

  pub index_off_replaced : (q r : Rec) → at s.records n ≡ Some q → has_field s.schema f q.class ≡ false → has_field s.schema f r.class ≡ false → entries_of (store_with n r s) f ≡ entries_of s f
  index_off_replaced q r found was off = index_off r off ∙ index_stays_without q found was

  -- the same key again
  pub index_same : (q r : Rec) → at s.records n ≡ Some q → has_field s.schema f q.class ≡ true → has_field s.schema f r.class ≡ true → key_in f q ≡ key_in f r → entries_of (store_with n r s) f ≡ entries_of s f
  index_same q r found was it same =
      is_list s f s.next (with_at s.records n r)
      ∙ placed_one r (with_at s.records n r) it (still_sorted n r s.records keeps.by_number) (found_put n r s.records)
      ∙ ap₂ (λ (k : Atom) (m : Map Rec). placed index_cmp (record { key = k; number = n }) (list_of s f m)) (sym same) (without_put n r s.records)
      ∙ sym (placed_one q s.records was keeps.by_number found)
      ∙ sym (is_list s f s.next s.records)
    where
      placed_one : (p : Rec) (m : Map Rec) → has_field s.schema f p.class ≡ true → is_sorted nat_cmp m ≡ true → at m n ≡ Some p → list_of s f m ≡ placed index_cmp (keyed p) (list_of s f (without_at n m))
      placed_one p m on up there = one_more index_cmp index_total (passes s f) (item s f) (apart s f) n p on m up there

-- the next number doesn't matter
pub index_any_next : (s : Store) (f : FieldDef) (next : ℕ) → entries_of (record { schema = s.schema; next = next; records = s.records }) f ≡ entries_of s f
index_any_next s f next = is_list s f next s.records ∙ sym (is_list s f s.next s.records)

-- ---- the list of all objects

abbrev extent : ℕ × Rec → ExtentItem
extent e = record { number = e.0; class = (e.1).class }

pub equal_is : (k n : ℕ) → is_eq (nat_cmp k n) ≡ (k == n)
equal_is k n = elim (eqb_tells k n) [ inl same ↦ tied k n same.1 ∙ sym same.0 | inr apart ↦ untied k n apart.1 ∙ sym apart.0 ]

others_listed : (n : ℕ) (m : Map Rec) → map extent (without_at n m) ≡ filter (λ e. not (is_numbered n e)) (map extent m)
others_listed n [] = refl
others_listed n (e ∷ m) =
    of_test (e.0 == n) (others_listed n m)
    ∙ ap (λ b. cond (not b) (extent e ∷ filter (λ e. not (is_numbered n e)) (map extent m)) (filter (λ e. not (is_numbered n e)) (map extent m))) (sym (equal_is e.0 n))
  where
    of_test : (b : Bool) → map extent (without_at n m) ≡ filter (λ e. not (is_numbered n e)) (map extent m)
        → map extent (cond (not b) (e ∷ without_at n m) (without_at n m)) ≡ cond (not b) (extent e ∷ filter (λ e. not (is_numbered n e)) (map extent m)) (filter (λ e. not (is_numbered n e)) (map extent m))
    of_test true rest = rest
    of_test false rest = ap (λ l. extent e ∷ l) rest

extent_total : IsTotalOrder extent_cmp
extent_total = on_total (λ e. e.number) nat_cmp_total

extent_apart : (d e : ℕ × Rec) → d.0 ≢ e.0 → ¬ (extent_cmp (extent d) (extent e) ≡ Equal)
extent_apart d e other same = other (exact_unsigned d.0 e.0 same)

every : (m : Map Rec) → filter (λ e. true) m ≡ m
every [] = refl
every (e ∷ m) = ap (λ l. e ∷ l) (every m)

least : (e : ℕ × Rec) (m : Map Rec) → below_all nat_cmp e.0 m ≡ true → placed extent_cmp (extent e) (map extent m) ≡ extent e ∷ map extent m
least e [] below = refl
least e (d ∷ m) below =
    in_front extent_cmp (extent e) (extent d) (map extent m) (ge_is d.0 e.0 (omega (arith, lt_of e.0 d.0 (both_true (is_lt (nat_cmp e.0 d.0)) (below_all nat_cmp e.0 m) below).0)))

by_number : (m : Map Rec) → is_sorted nat_cmp m ≡ true → in_order extent_cmp extent_total (λ e. true) extent m ≡ map extent m
by_number [] up = refl
by_number (e ∷ m) up =
    let parts = both_true (below_all nat_cmp e.0 m) (is_sorted nat_cmp m) up in
    ap (placed extent_cmp (extent e)) (by_number m parts.1) ∙ least e m parts.0

module _ (s : Store) (n : ℕ) where
  pub extents_gone : extents_of (store_without n s) ≡ filter (λ e. not (is_numbered n e)) (extents_of s)
  extents_gone = others_listed n s.records

  pub extents_with : KeepsStore s → (r : Rec) → extents_of (store_with n r s) ≡ replaced extent_cmp (record { number = n; class = r.class }) (extents_of s)
  extents_with keeps r =
      sym (by_number (with_at s.records n r) (still_sorted n r s.records keeps.by_number))
      ∙ one_more extent_cmp extent_total (λ e. true) extent extent_apart n r refl (with_at s.records n r) (still_sorted n r s.records keeps.by_number) (found_put n r s.records)
      ∙ ap (λ m. placed extent_cmp (extent (n, r)) (in_order extent_cmp extent_total (λ e. true) extent m)) (without_put n r s.records)
      ∙ ap (placed extent_cmp (extent (n, r))) (by_number (without_at n s.records) (without_sorted n s.records keeps.by_number) ∙ others_listed n s.records)
