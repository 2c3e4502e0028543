-- The fields in the order of their ids.
use Rattle.std.proofs.Common.{◌≡◌, ◌∙◌, ap, ap₂, sym, refl, inl, inr, ℕ, zero, suc, ◌<◌, ◌≤◌, Bool, true, false, cond, List, [], ◌∷◌, ◌++◌, length, map, filter, get_or, set, flat_map, arith, length-append}
use Rattle.std.specs.Ordering.{is_lt, nat_cmp}
use Rattle.std.specs.Cmp.{nat_cmp_is}
use Rattle.std.specs.declared.cmp.Ordering.TheVariants.{Less, Equal, Greater}
use Rattle.std.specs.List.Sorted.{IsPartitionedBy}
use Rattle.std.proofs.lemmas.Bool.{cases_lt, true≢false}
use Rattle.oc_model.specs.Lists.{placed}
use Rattle.oc_chunks.specs.Ascending.{Each, Pairs}
use Rattle.oc_chunks.proofs.Eaches.{partitioned}
use Rattle.oc_index.specs.declared.indexes.Field.{Field}
use Rattle.oc_index.specs.Fields.{FieldList}
use Rattle.oc_index.specs.Indexed.{id_cmp, field_cmp, ids_of, AreInOrder, IsPlace}

-- ---- the order of numbers

lt_is : (a b : ℕ) → a < b → is_lt (nat_cmp a b) ≡ true
lt_is a b lt = ap is_lt (sym (nat_cmp_is a b Less lt))

pub ge_is : (a b : ℕ) → b ≤ a → is_lt (nat_cmp a b) ≡ false
ge_is a b le = elim (cases_lt b a) [
  | inl lt ↦ ap is_lt (sym (nat_cmp_is a b Greater lt))
  | inr ge ↦ ap is_lt (sym (nat_cmp_is a b Equal (omega (arith, le, ge))))
]

pub lt_of : (a b : ℕ) → is_lt (nat_cmp a b) ≡ true → a < b
lt_of a b it = elim (cases_lt a b) [
  | inl lt ↦ lt
  | inr ge ↦ absurd (true≢false (sym it ∙ ge_is a b ge))
]

pub le_of : (a b : ℕ) → is_lt (nat_cmp a b) ≡ false → b ≤ a
le_of a b off = elim (cases_lt a b) [
  | inl lt ↦ absurd (true≢false (sym (lt_is a b lt) ∙ off))
  | inr ge ↦ ge
]

-- ---- what keeps the order

each_up : (m n : ℕ) (ks : List ℕ) → m ≤ n → Each (λ k. n ≤ k) ks → Each (λ k. m ≤ k) ks
each_up m n [] le e = tt
each_up m n (k ∷ ks) le e = (omega (arith, le, e.0), each_up m n ks le e.1)

each_filter : (P : ℕ → Type 0) (p : Field → Bool) (fs : List Field) → Each P (ids_of fs) → Each P (ids_of (filter p fs))
each_filter P p [] e = tt
each_filter P p (f ∷ fs) e = elim (p f) as (λ b. Each P (ids_of (cond b (f ∷ filter p fs) (filter p fs)))) [
  | true ↦ (e.0, each_filter P p fs e.1)
  | false ↦ each_filter P p fs e.1
]

pub filter_order : (p : Field → Bool) (fs : List Field) → AreInOrder fs → AreInOrder (filter p fs)
filter_order p [] a = tt
filter_order p (f ∷ fs) a = elim (p f) as (λ b. AreInOrder (cond b (f ∷ filter p fs) (filter p fs))) [
  | true ↦ (each_filter (λ k. f.id ≤ k) p fs a.0, filter_order p fs a.1)
  | false ↦ filter_order p fs a.1
]

pub map_ids : (h : Field → Field) → ((f : Field) → (h f).id ≡ f.id) → (fs : List Field) → ids_of (map h fs) ≡ ids_of fs
map_ids h same [] = refl
map_ids h same (f ∷ fs) = ap₂ (λ k l. k ∷ l) (same f) (map_ids h same fs)

pub set_ids : (fs : List Field) (at : ℕ) (q : Field) (g : Field) → at < length fs → q ≡ get_or fs at q → g.id ≡ q.id → ids_of (set fs at g) ≡ ids_of fs
set_ids [] at q g lt read same = absurd (omega (arith, lt))
set_ids (f ∷ fs) zero q g lt read same = ap (λ k. k ∷ ids_of fs) (same ∙ ap (λ e. e.id) read)
set_ids (f ∷ fs) (suc at) q g lt read same = ap (λ l. f.id ∷ l) (set_ids fs at q g (omega (arith, lt)) read same)

pub place_lt : (id : ℕ) (fs : List Field) (at : ℕ) → IsPlace id fs at → at < length fs
place_lt id fs at p = omega (arith, p.index, ap length p.split, length-append p.before (p.field ∷ p.after))

-- ---- a field put in

each_behind : (id : ℕ) (f : Field) (fs : List Field) → Each (λ k. f.id ≤ k) (ids_of fs) → Each (λ g. is_lt (nat_cmp g.id id) ≡ true → is_lt (nat_cmp f.id id) ≡ true) fs
each_behind id f [] e = tt
each_behind id f (g ∷ fs) e = (λ it. lt_is f.id id (omega (arith, e.0, lt_of g.id id it)), each_behind id f fs e.1)

parts : (id : ℕ) (fs : List Field) → AreInOrder fs → Pairs (λ f g. is_lt (nat_cmp g.id id) ≡ true → is_lt (nat_cmp f.id id) ≡ true) fs
parts id [] a = tt
parts id (f ∷ fs) a = (each_behind id f fs a.0, parts id fs a.1)

pub id_part : (id : ℕ) (fs : List Field) → AreInOrder fs → IsPartitionedBy (λ f. is_lt (nat_cmp f.id id)) fs
id_part id fs a = partitioned (λ f. is_lt (nat_cmp f.id id)) fs (parts id fs a)

pub placed_at : (x : Field) (fs gs : List Field) → Each (λ f. is_lt (nat_cmp f.id x.id) ≡ true) fs → Each (λ f. is_lt (nat_cmp f.id x.id) ≡ false) gs → placed id_cmp x (fs ++ gs) ≡ fs ++ x ∷ gs
placed_at x [] [] low high = refl
placed_at x [] (g ∷ gs) low high = ap (λ b. cond b (g ∷ placed id_cmp x gs) (x ∷ g ∷ gs)) high.0
placed_at x (f ∷ fs) gs low high = ap (λ b. cond b (f ∷ placed id_cmp x (fs ++ gs)) (x ∷ f ∷ (fs ++ gs))) low.0 ∙ ap (λ l. f ∷ l) (placed_at x fs gs low.1 high)

each_placed : (P : ℕ → Type 0) (x : Field) (fs : List Field) → P x.id → Each P (ids_of fs) → Each P (ids_of (placed id_cmp x fs))
each_placed P x [] it e = (it, tt)
each_placed P x (f ∷ fs) it e = elim (is_lt (nat_cmp f.id x.id)) as (λ b. Each P (ids_of (cond b (f ∷ placed id_cmp x fs) (x ∷ f ∷ fs)))) [
  | true ↦ (e.0, each_placed P x fs it e.1)
  | false ↦ (it, (e.0, e.1))
]

pub order_placed : (x : Field) (fs : List Field) → AreInOrder fs → AreInOrder (placed id_cmp x fs)
order_placed x [] a = (tt, tt)
order_placed x (f ∷ fs) a = of_test (is_lt (nat_cmp f.id x.id)) refl (order_placed x fs a.1)
  where
    of_test : (b : Bool) → is_lt (nat_cmp f.id x.id) ≡ b → AreInOrder (placed id_cmp x fs) → AreInOrder (cond b (f ∷ placed id_cmp x fs) (x ∷ f ∷ fs))
    of_test true it rest = (each_placed (λ k. f.id ≤ k) x fs (omega (arith, lt_of f.id x.id it)) a.0, rest)
    of_test false off rest = ((le_of f.id x.id off, each_up x.id f.id (ids_of fs) (le_of f.id x.id off) a.0), a)

-- ---- those that are there, or were

module _ (is_in : Field → Bool) (index : Field → FieldList) where
  abbrev seen : Field → List (ℕ × FieldList)
  seen f = cond (is_in f) ((f.id, index f) ∷ []) []

  each_seen : (P : ℕ → Type 0) (fs : List Field) → Each P (ids_of fs) → Each (λ g. P g.0) (flat_map seen fs)
  each_seen P [] e = tt
  each_seen P (f ∷ fs) e = elim (is_in f) as (λ b. Each (λ g. P g.0) (cond b ((f.id, index f) ∷ []) [] ++ flat_map seen fs)) [
    | true ↦ (e.0, each_seen P fs e.1)
    | false ↦ each_seen P fs e.1
  ]

  in_front : (y : ℕ × FieldList) (gs : List (ℕ × FieldList)) → Each (λ g. y.0 ≤ g.0) gs → placed field_cmp y gs ≡ y ∷ gs
  in_front y [] e = refl
  in_front y (g ∷ gs) e = ap (λ b. cond b (g ∷ placed field_cmp y gs) (y ∷ g ∷ gs)) (ge_is g.0 y.0 e.0)

  pub placed_seen : (x : Field) (fs : List Field) → AreInOrder fs → is_in x ≡ true → flat_map seen (placed id_cmp x fs) ≡ placed field_cmp (x.id, index x) (flat_map seen fs)
  placed_seen x [] a it = ap (λ b. cond b ((x.id, index x) ∷ []) [] ++ []) it
  placed_seen x (f ∷ fs) a it = of_test (is_lt (nat_cmp f.id x.id)) refl (placed_seen x fs a.1 it)
    where
      y : ℕ × FieldList
      y = (x.id, index x)

      behind : (b : Bool) → is_lt (nat_cmp f.id x.id) ≡ true → cond b ((f.id, index f) ∷ []) [] ++ placed field_cmp y (flat_map seen fs) ≡ placed field_cmp y (cond b ((f.id, index f) ∷ []) [] ++ flat_map seen fs)
      behind true less = sym (ap (λ b. cond b ((f.id, index f) ∷ placed field_cmp y (flat_map seen fs)) (y ∷ (f.id, index f) ∷ flat_map seen fs)) less)
      behind false less = refl

      of_test : (b : Bool) → is_lt (nat_cmp f.id x.id) ≡ b → flat_map seen (placed id_cmp x fs) ≡ placed field_cmp y (flat_map seen fs) → flat_map seen (cond b (f ∷ placed id_cmp x fs) (x ∷ f ∷ fs)) ≡ placed field_cmp y (seen f ++ flat_map seen fs)
      of_test true less rest = ap (λ l. seen f ++ l) rest ∙ behind (is_in f) less
      of_test false off rest =
          let le : x.id ≤ f.id = le_of f.id x.id off in
          ap (λ b. cond b (y ∷ []) [] ++ flat_map seen (f ∷ fs)) it ∙ sym (in_front y (flat_map seen (f ∷ fs)) (each_seen (λ k. x.id ≤ k) (f ∷ fs) (le, each_up x.id f.id (ids_of fs) le a.0)))

  pub unseen : (x : Field) (fs : List Field) → is_in x ≡ false → flat_map seen (placed id_cmp x fs) ≡ flat_map seen fs
  unseen x [] off = ap (λ b. cond b ((x.id, index x) ∷ []) [] ++ []) off
  unseen x (f ∷ fs) off = elim (is_lt (nat_cmp f.id x.id)) as (λ b. flat_map seen (cond b (f ∷ placed id_cmp x fs) (x ∷ f ∷ fs)) ≡ seen f ++ flat_map seen fs) [
    | true ↦ ap (λ l. seen f ++ l) (unseen x fs off)
    | false ↦ ap (λ b. cond b ((x.id, index x) ∷ []) [] ++ flat_map seen (f ∷ fs)) off
  ]

  each_id : (P : ℕ → Type 0) (gs : List (ℕ × FieldList)) → Each (λ g. P g.0) gs → Each P (map (λ g. g.0) gs)
  each_id P [] e = tt
  each_id P (g ∷ gs) e = (e.0, each_id P gs e.1)

  pub seen_order : (fs : List Field) → AreInOrder fs → Pairs (λ m n. m ≤ n) (map (λ g. g.0) (flat_map seen fs))
  seen_order [] a = tt
  seen_order (f ∷ fs) a = elim (is_in f) as (λ b. Pairs (λ m n. m ≤ n) (map (λ g. g.0) (cond b ((f.id, index f) ∷ []) [] ++ flat_map seen fs))) [
    | true ↦ (each_id (λ k. f.id ≤ k) (flat_map seen fs) (each_seen (λ k. f.id ≤ k) fs a.0), seen_order fs a.1)
    | false ↦ seen_order fs a.1
  ]
