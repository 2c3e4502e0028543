-- The lists that a catalog names, in the order of their ids.
use Rattle.std.proofs.Common.{◌≡◌, ◌≢◌, inl, inr, ◌∙◌, ap, sym, refl, subst, ℕ, ◌<◌, ◌≤◌, Bool, true, false, true≢false, cond, not, ◌&&◌, ◌||◌, eq-eqb, List, [], ◌∷◌, length, map, filter, arith, nat_cmp, nat_eq}
use Rattle.std.specs.Prelude.{flat_map, nat_le, nat_lt}
use Rattle.std.specs.List.{list_any, list_all}
use Rattle.std.specs.Ordering.{is_lt}
use Rattle.std.specs.Cmp.{nat_cmp_is}
use Rattle.std.specs.declared.cmp.Ordering.TheVariants.{Less, Equal, Greater}
use Rattle.std.proofs.lemmas.Bool.{and_parts, cases_lt, leb-true}
use Rattle.std.proofs.lemmas.List.{length-map}
use Rattle.oc_model.specs.declared.value.Base.{Base}
use Rattle.oc_model.specs.declared.schema.FieldDef.{FieldDef}
use Rattle.oc_model.specs.declared.schema.ClassDef.{ClassDef}
use Rattle.oc_model.specs.Lists.{placed, sorted, IsOneOf}
use Rattle.oc_model.specs.Lengths.{indexed_fields}
use Rattle.oc_model.specs.Schemas.{Schema}
use Rattle.oc_model.specs.SchemaRules.{all_fields, are_apart, keeps_rules}
use Rattle.oc_model.specs.Stores.{base_of}
use Rattle.oc_model.proofs.Rules.{rules_kept}
use Rattle.oc_chunks.specs.Ascending.{Each, Pairs}
use Rattle.oc_chunks.proofs.Eaches.{each_more}
use Rattle.oc_catalog.specs.Catalogs.{indexed_ids, list_ids}
use Rattle.oc_catalog.specs.declared.catalog.ListEntry.{ListEntry}
use Rattle.oc_lists.specs.Lists.{bases_in}

-- ---- each, and pairs, through a map and a filter

pub each_map : {X Y : Type 0} (f : X → Y) (P : Y → Type 0) (xs : List X) → Each (λ x. P (f x)) xs → Each P (map f xs)
each_map f P [] a = tt
each_map f P (x ∷ xs) a = (a.0, each_map f P xs a.1)

pub each_unmap : {X Y : Type 0} (f : X → Y) (P : Y → Type 0) (xs : List X) → Each P (map f xs) → Each (λ x. P (f x)) xs
each_unmap f P [] a = tt
each_unmap f P (x ∷ xs) a = (a.0, each_unmap f P xs a.1)

pub pairs_map : {X Y : Type 0} (f : X → Y) (R : Y → Y → Type 0) (xs : List X) → Pairs (λ x y. R (f x) (f y)) xs → Pairs R (map f xs)
pairs_map f R [] p = tt
pairs_map f R (x ∷ xs) p = (each_map f (R (f x)) xs p.0, pairs_map f R xs p.1)

pub pairs_unmap : {X Y : Type 0} (f : X → Y) (R : Y → Y → Type 0) (xs : List X) → Pairs R (map f xs) → Pairs (λ x y. R (f x) (f y)) xs
pairs_unmap f R [] p = tt
pairs_unmap f R (x ∷ xs) p = (each_unmap f (R (f x)) xs p.0, pairs_unmap f R xs p.1)

each_filter : {X : Type 0} (P : X → Type 0) (t : X → Bool) (xs : List X) → Each P xs → Each P (filter t xs)
each_filter P t [] a = tt
each_filter P t (x ∷ xs) a = elim (t x) as (λ b. Each P (cond b (x ∷ filter t xs) (filter t xs))) [ true ↦ (a.0, each_filter P t xs a.1) | false ↦ each_filter P t xs a.1 ]

pub pairs_filter : {X : Type 0} (R : X → X → Type 0) (t : X → Bool) (xs : List X) → Pairs R xs → Pairs R (filter t xs)
pairs_filter R t [] p = tt
pairs_filter R t (x ∷ xs) p = elim (t x) as (λ b. Pairs R (cond b (x ∷ filter t xs) (filter t xs))) [ true ↦ (each_filter (R x) t xs p.0, pairs_filter R t xs p.1) | false ↦ pairs_filter R t xs p.1 ]

each_passes : {X : Type 0} (t : X → Bool) (xs : List X) → list_all t xs ≡ true → Each (λ x. t x ≡ true) xs
each_passes t [] e = tt
each_passes t (x ∷ xs) e = let p = and_parts (t x) (list_all t xs) e in (p.0, each_passes t xs p.1)

-- ---- numbers in order, each once

not_less : (m n : ℕ) → n ≤ m → is_lt (nat_cmp m n) ≡ false
not_less m n le = elim (cases_lt n m) [ inl lt ↦ ap is_lt (sym (nat_cmp_is m n Greater lt)) | inr other ↦ ap is_lt (sym (nat_cmp_is m n Equal (omega arith))) ]

placed_behind : (x y : ℕ) (ys : List ℕ) → y < x → placed nat_cmp x (y ∷ ys) ≡ y ∷ placed nat_cmp x ys
placed_behind x y ys lt = ap (λ b. cond b (y ∷ placed nat_cmp x ys) (x ∷ y ∷ ys)) (ap is_lt (sym (nat_cmp_is y x Less lt)))

placed_before : (x y : ℕ) (ys : List ℕ) → x ≤ y → placed nat_cmp x (y ∷ ys) ≡ x ∷ y ∷ ys
placed_before x y ys le = ap (λ b. cond b (y ∷ placed nat_cmp x ys) (x ∷ y ∷ ys)) (not_less y x le)

each_placed : (P : ℕ → Type 0) (x : ℕ) (ys : List ℕ) → P x → Each P ys → Each P (placed nat_cmp x ys)
each_placed P x [] p a = (p, tt)
each_placed P x (y ∷ ys) p a = elim (cases_lt y x) [
  | inl lt ↦ subst (Each P) (sym (placed_behind x y ys lt)) (a.0, each_placed P x ys p a.1)
  | inr le ↦ subst (Each P) (sym (placed_before x y ys le)) (p, a)
]

pub each_sorted : (P : ℕ → Type 0) (xs : List ℕ) → Each P xs → Each P (sorted nat_cmp xs)
each_sorted P [] a = tt
each_sorted P (x ∷ xs) a = each_placed P x (sorted nat_cmp xs) a.0 (each_sorted P xs a.1)

abbrev pub Below : ℕ → ℕ → Type 0
Below m n = m < n

abbrev pub Other : ℕ → ℕ → Type 0
Other m n = m ≢ n

placed_ascends : (x : ℕ) (ys : List ℕ) → Each (Other x) ys → Pairs Below ys → Pairs Below (placed nat_cmp x ys)
placed_ascends x [] other p = (tt, tt)
placed_ascends x (y ∷ ys) other p = elim (cases_lt y x) [
  | inl lt ↦ subst (Pairs Below) (sym (placed_behind x y ys lt)) (each_placed (Below y) x ys lt p.0, placed_ascends x ys other.1 p.1)
  | inr le ↦ subst (Pairs Below) (sym (placed_before x y ys le)) (let lt : x < y = omega (arith, le, other.0) in ((lt, each_more (Below y) (Below x) ys (λ z below. omega (arith, lt, below)) p.0), p))
]

pub sorted_ascends : (xs : List ℕ) → Pairs Other xs → Pairs Below (sorted nat_cmp xs)
sorted_ascends [] p = tt
sorted_ascends (x ∷ xs) p = placed_ascends x (sorted nat_cmp xs) (each_sorted (Other x) xs p.0) (sorted_ascends xs p.1)

neither : (a b : Bool) → (a || b) ≡ false → (a ≡ false) × (b ≡ false)
neither true b e = absurd (true≢false e)
neither false b e = (refl, e)

not_true : (b : Bool) → not b ≡ true → b ≡ false
not_true true e = absurd (true≢false (sym e))
not_true false e = refl

none_in : (n : ℕ) (ms : List ℕ) → list_any (nat_eq n) ms ≡ false → Each (Other n) ms
none_in n [] e = tt
none_in n (m ∷ ms) e = let p = neither (nat_eq n m) (list_any (nat_eq n) ms) e in ((λ same. true≢false (sym (eq-eqb n m same) ∙ p.0)), none_in n ms p.1)

pub apart_pairs : (ns : List ℕ) → are_apart ns ≡ true → Pairs Other ns
apart_pairs [] e = tt
apart_pairs (n ∷ ns) e = let p = and_parts (not (list_any (nat_eq n) ns)) (are_apart ns) e in (none_in n ns (not_true _ p.0), apart_pairs ns p.1)

-- ---- the ids of lists

module _ (s : Schema) (rules : keeps_rules s ≡ true) where
  abbrev id_of : FieldDef → ℕ
  id_of f = f.id

  pub fields_apart : Pairs (λ (f : FieldDef) (g : FieldDef). f.id ≢ g.id) (indexed_fields s)
  fields_apart = pairs_filter (λ (f : FieldDef) (g : FieldDef). f.id ≢ g.id) (λ f. f.indexed) (all_fields s) (pairs_unmap id_of Other (all_fields s) (apart_pairs (map id_of (all_fields s)) (rules_kept s rules).ids))

  -- the ids are drawn from 1 on
  pub fields_drawn : Each (λ (f : FieldDef). 1 ≤ f.id) (indexed_fields s)
  fields_drawn =
      each_filter (λ (f : FieldDef). 1 ≤ f.id) (λ f. f.indexed) (all_fields s)
      (each_more (λ (f : FieldDef). (nat_le 1 f.id && nat_lt f.id s.next_field) ≡ true) (λ (f : FieldDef). 1 ≤ f.id) (all_fields s) (λ f h. leb-true 1 f.id (and_parts _ _ h).0)
      (each_passes (λ (f : FieldDef). nat_le 1 f.id && nat_lt f.id s.next_field) (all_fields s) (and_parts (nat_le 1 s.next_field) _ (rules_kept s rules).drawn).1))

  -- each index has an id of its own
  pub ids_apart : Pairs Other (indexed_ids s.classes)
  ids_apart = pairs_map id_of Other (indexed_fields s) fields_apart

  placed_first : (ys : List ℕ) → placed nat_cmp 0 ys ≡ 0 ∷ ys
  placed_first [] = refl
  placed_first (y ∷ ys) = placed_before 0 y ys (omega arith)

  pub ids_are : list_ids s.classes ≡ 0 ∷ sorted nat_cmp (indexed_ids s.classes)
  ids_are = placed_first (sorted nat_cmp (indexed_ids s.classes))

  -- a field has this id
  abbrev pub IsKnown : ℕ → Type 0
  IsKnown id = (b : Base) × IsOneOf (id, b) (bases_in s)

  known_in : (gs : List FieldDef) → Each (λ id. (b : Base) × IsOneOf {X = ℕ × Base} (id, b) (map (λ (f : FieldDef). (f.id, base_of f.kind)) gs)) (map id_of gs)
  known_in [] = tt
  known_in (g ∷ gs) = ((base_of g.kind, inl refl), each_more _ _ (map id_of gs) (λ id h. (h.0, inr h.1)) (known_in gs))

  pub fields_ascend : (lists : List ListEntry) → map (λ l. l.id) lists ≡ sorted nat_cmp (indexed_ids s.classes) → Pairs (λ (k : ListEntry) (l : ListEntry). k.id < l.id) lists
  fields_ascend lists ids = pairs_unmap (λ (l : ListEntry). l.id) Below lists (subst (Pairs Below) (sym ids) (sorted_ascends (indexed_ids s.classes) ids_apart))

  pub fields_known : (lists : List ListEntry) → map (λ l. l.id) lists ≡ sorted nat_cmp (indexed_ids s.classes) → Each (λ (l : ListEntry). IsKnown l.id) lists
  fields_known lists ids = each_unmap (λ (l : ListEntry). l.id) IsKnown lists (subst (Each IsKnown) (sym ids) (each_sorted IsKnown (indexed_ids s.classes) (known_in (indexed_fields s))))

  -- ---- the lists of a catalog: that of all objects, and the others

  module _ (lists : List ListEntry) (ids : map (λ (l : ListEntry). l.id) lists ≡ list_ids s.classes) where
    pub some_lists : length lists ≡ 0 → ⊥
    some_lists none = absurd (omega (arith, none, length-map lists (λ (l : ListEntry). l.id), ap length (ids ∙ ids_are)))

    module _ (all : ListEntry) (fields : List ListEntry) (is : lists ≡ all ∷ fields) where
      pub first_is_all : all.id ≡ 0
      first_is_all = let both : all.id ∷ map (λ (l : ListEntry). l.id) fields ≡ 0 ∷ sorted nat_cmp (indexed_ids s.classes) = sym (ap (map (λ (l : ListEntry). l.id)) is) ∙ ids ∙ ids_are in cc

      pub rest_are_fields : map (λ (l : ListEntry). l.id) fields ≡ sorted nat_cmp (indexed_ids s.classes)
      rest_are_fields = let both : all.id ∷ map (λ (l : ListEntry). l.id) fields ≡ 0 ∷ sorted nat_cmp (indexed_ids s.classes) = sym (ap (map (λ (l : ListEntry). l.id)) is) ∙ ids ∙ ids_are in cc
