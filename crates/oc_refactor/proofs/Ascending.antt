-- Fields put by their ids: they ascend, and each is one of those that were put.
use Rattle.std.proofs.Common.{◌≡◌, ◌⊎◌, refl, sym, ap, ◌∙◌, subst, ℕ, ◌<◌, inl, inr, Bool, true, false, not, ◌&&◌, ◌||◌, nat_lt, List, [], ◌∷◌, map, fold, arith, nat_cmp, T}
use Rattle.std.specs.declared.cmp.Ordering.TheVariants.{Less, Equal, Greater}
use Rattle.std.specs.Ordering.{is_lt}
use Rattle.std.specs.FinMap.Entries.{is_sorted, below_all, is_sorted-put, by_order}
use Rattle.std.proofs.lemmas.Bool.{and_from}
use Rattle.std.proofs.lemmas.Bool.Decides.{nat_tests}
use Rattle.std.proofs.lemmas.Cmp.{nat_cmp_total}
use Rattle.std.proofs.lemmas.Map.Lookups.{exact_unsigned}
use Rattle.oc_model.specs.declared.schema.FieldDef.{FieldDef}
use Rattle.oc_model.specs.Lists.{IsOneOf}
use Rattle.oc_model.specs.Maps.{Map, with_at}
use Rattle.oc_model.specs.SchemaRules.{are_apart, are_in_order}
use Rattle.oc_model.specs.SchemaSteps.{by_id}
use Rattle.oc_model.proofs.Elements.{from_map, to_map}
use Rattle.oc_refactor.proofs.Apart.{apart_from}

-- an entry for one of these fields, under its id
abbrev pub IsHeld : List FieldDef → ℕ × FieldDef → Type 0
IsHeld fs e = (e.0 ≡ (e.1).id) × IsOneOf e.1 fs

abbrev pub put_all : Map FieldDef → List FieldDef → Map FieldDef
put_all m fs = fold (λ (m : Map FieldDef) f. with_at m f.id f) m fs

equal_ids : (m n : ℕ) → nat_cmp m n ≡ Equal → n ≡ m
equal_ids m n h = sym (exact_unsigned m n h)

held_at : (fs : List FieldDef) (f : FieldDef) (n : ℕ) (e : ℕ × FieldDef) → n ≡ f.id → IsOneOf f fs → e ≡ (n, f) → IsHeld fs e
held_at fs f n e id i q = (ap (λ (x : ℕ × FieldDef). x.0) q ∙ id ∙ ap (λ (x : ℕ × FieldDef). (x.1).id) (sym q), subst (λ g. IsOneOf g fs) (ap (λ (x : ℕ × FieldDef). x.1) (sym q)) i)

put_held : (fs : List FieldDef) (f : FieldDef) (m : Map FieldDef) → IsOneOf f fs → ((e : ℕ × FieldDef) → IsOneOf e m → IsHeld fs e) → (e : ℕ × FieldDef) → IsOneOf e (with_at m f.id f) → IsHeld fs e
put_held fs f [] i h e k = elim k as (λ _. IsHeld fs e) [ inl q ↦ held_at fs f f.id e refl i q | inr j ↦ absurd j ]
put_held fs f (x ∷ m) i h e k =
    (elim (nat_cmp f.id x.0) as (λ r. nat_cmp f.id x.0 ≡ r → IsOneOf e (by_order r ((f.id, f) ∷ x ∷ m) ((x.0, f) ∷ m) (x ∷ with_at m f.id f)) → IsHeld fs e) [
      | Less ↦ λ r k. elim k as (λ _. IsHeld fs e) [ inl q ↦ held_at fs f f.id e refl i q | inr j ↦ h e j ]
      | Equal ↦ λ r k. elim k as (λ _. IsHeld fs e) [ inl q ↦ held_at fs f x.0 e (equal_ids f.id x.0 r) i q | inr j ↦ h e (inr j) ]
      | Greater ↦ λ r k. elim k as (λ _. IsHeld fs e) [ inl q ↦ h e (inl q) | inr j ↦ put_held fs f m i (λ y a. h y (inr a)) e j ]
    ]) refl k

all_held : (all fs : List FieldDef) (m : Map FieldDef) → ((f : FieldDef) → IsOneOf f fs → IsOneOf f all) → ((e : ℕ × FieldDef) → IsOneOf e m → IsHeld all e) → (e : ℕ × FieldDef) → IsOneOf e (put_all m fs) → IsHeld all e
all_held all [] m among h e k = h e k
all_held all (f ∷ fs) m among h e k = all_held all fs (with_at m f.id f) (λ g i. among g (inr i)) (put_held all f m (among f (inl refl)) h) e k

all_sorted : (fs : List FieldDef) (m : Map FieldDef) → T (is_sorted nat_cmp m) → T (is_sorted nat_cmp (put_all m fs))
all_sorted [] m h = h
all_sorted (f ∷ fs) m h = all_sorted fs (with_at m f.id f) (is_sorted-put nat_cmp nat_cmp_total f.id f m h)

-- ---- each id that is put is a key

abbrev keys_in : Map FieldDef → List ℕ
keys_in m = map (λ (e : ℕ × FieldDef). e.0) m

put_key : (n : ℕ) (f : FieldDef) (m : Map FieldDef) → (n ≡ f.id) ⊎ IsOneOf n (keys_in m) → IsOneOf n (keys_in (with_at m f.id f))
put_key n f [] h = elim h as (λ _. IsOneOf n (keys_in (with_at [] f.id f))) [ inl q ↦ inl q | inr i ↦ absurd i ]
put_key n f (x ∷ m) h =
    (elim (nat_cmp f.id x.0) as (λ r. nat_cmp f.id x.0 ≡ r → IsOneOf n (keys_in (by_order r ((f.id, f) ∷ x ∷ m) ((x.0, f) ∷ m) (x ∷ with_at m f.id f)))) [
      | Less ↦ λ r. h
      | Equal ↦ λ r. elim h as (λ _. IsOneOf n (keys_in ((x.0, f) ∷ m))) [ inl q ↦ inl (q ∙ sym (equal_ids f.id x.0 r)) | inr i ↦ i ]
      | Greater ↦ λ r. elim h as (λ _. IsOneOf n (keys_in (x ∷ with_at m f.id f))) [
        | inl q ↦ inr (put_key n f m (inl q))
        | inr i ↦ (elim i as (λ _. IsOneOf n (keys_in (x ∷ with_at m f.id f))) [ inl q ↦ inl q | inr j ↦ inr (put_key n f m (inr j)) ])
      ]
    ]) refl

all_keys : (n : ℕ) (fs : List FieldDef) (m : Map FieldDef) → IsOneOf n (map (λ (f : FieldDef). f.id) fs) ⊎ IsOneOf n (keys_in m) → IsOneOf n (keys_in (put_all m fs))
all_keys n [] m h = elim h as (λ _. IsOneOf n (keys_in m)) [ inl i ↦ absurd i | inr j ↦ j ]
all_keys n (f ∷ fs) m h =
    all_keys n fs (with_at m f.id f)
    (elim h as (λ _. IsOneOf n (map (λ (f : FieldDef). f.id) fs) ⊎ IsOneOf n (keys_in (with_at m f.id f))) [
      | inl i ↦ (elim i as (λ _. IsOneOf n (map (λ (f : FieldDef). f.id) fs) ⊎ IsOneOf n (keys_in (with_at m f.id f))) [ inl q ↦ inr (put_key n f m (inl q)) | inr k ↦ inl k ])
      | inr j ↦ inr (put_key n f m (inr j))
    ])

-- ---- a sorted map's fields

both : (a b : Bool) → T (a && b) → T a × T b
both true b h = (tt, h)
both false b h = absurd h

rises : (m n : ℕ) → T (is_lt (nat_cmp m n)) → nat_lt m n ≡ true
rises m n h = sym (tie m n) ∙ holds _ h
  where
    tie : (m n : ℕ) → is_lt (nat_cmp m n) ≡ nat_lt m n
    tie m n = grind (arith, nat_tests)

    holds : (b : Bool) → T b → b ≡ true
    holds true h = refl
    holds false h = absurd h

below_each : (n k : ℕ) (m : Map FieldDef) → T (below_all nat_cmp n m) → IsOneOf k (map (λ (e : ℕ × FieldDef). e.0) m) → n < k
below_each n k [] h i = absurd i
below_each n k (e ∷ m) h i =
    let r = both (is_lt (nat_cmp n e.0)) (below_all nat_cmp n m) h in
    elim i as (λ _. n < k) [
      | inl q ↦ let lt = rises n e.0 r.0 in subst (λ x. n < x) (sym q) (step n e.0 lt)
      | inr j ↦ below_each n k m r.1 j
    ]
  where
    step : (m n : ℕ) → nat_lt m n ≡ true → m < n
    step m n h = grind (arith, nat_tests, h)

keys_apart : (m : Map FieldDef) → T (is_sorted nat_cmp m) → are_apart (map (λ (e : ℕ × FieldDef). e.0) m) ≡ true
keys_apart [] h = refl
keys_apart (e ∷ m) h =
    let r = both (below_all nat_cmp e.0 m) (is_sorted nat_cmp m) h in
    apart_from e.0 (map (λ (x : ℕ × FieldDef). x.0) m) (λ i. irreflexive e.0 (below_each e.0 e.0 m r.0 i)) (keys_apart m r.1)
  where
    irreflexive : (n : ℕ) → n < n → ⊥
    irreflexive n h = omega (arith, h)

ids_are_keys : (fs : List FieldDef) (m : Map FieldDef) → ((e : ℕ × FieldDef) → IsOneOf e m → IsHeld fs e) → map (λ (f : FieldDef). f.id) (map (λ (e : ℕ × FieldDef). e.1) m) ≡ map (λ (e : ℕ × FieldDef). e.0) m
ids_are_keys fs [] h = refl
ids_are_keys fs (e ∷ m) h = λ i. sym (h e (inl refl)).0 i ∷ ids_are_keys fs m (λ x j. h x (inr j)) i

in_order : (fs : List FieldDef) (m : Map FieldDef) → ((e : ℕ × FieldDef) → IsOneOf e m → IsHeld fs e) → ((e : ℕ × FieldDef) → IsOneOf e m → (e.1).current ≡ false) → T (is_sorted nat_cmp m) → are_in_order (map (λ (e : ℕ × FieldDef). e.1) m) ≡ true
in_order fs [] h past s = refl
in_order fs (e ∷ []) h past s = refl
in_order fs (e ∷ g ∷ m) h past s =
    let r = both (below_all nat_cmp e.0 (g ∷ m)) (is_sorted nat_cmp (g ∷ m)) s in
    let lt = rises e.0 g.0 (both (is_lt (nat_cmp e.0 g.0)) (below_all nat_cmp e.0 m) r.0).0 in
    and_from _ _
    ((λ i. past e (inl refl) i || (not (past g (inr (inl refl)) i) && nat_lt (sym (h e (inl refl)).0 i) (sym (h g (inr (inl refl))).0 i))) ∙ lt)
    (in_order fs (g ∷ m) (λ x j. h x (inr j)) (λ x j. past x (inr j)) r.1)

-- ---- the fields by id

module _ (fs : List FieldDef) where
  held : (e : ℕ × FieldDef) → IsOneOf e (put_all [] fs) → IsHeld fs e
  held = all_held fs fs [] (λ f i. i) (λ e i. absurd i)

  pub by_id_from : (f : FieldDef) → IsOneOf f (by_id fs) → IsOneOf f fs
  by_id_from f h = let r = from_map (λ (e : ℕ × FieldDef). e.1) f (put_all [] fs) h in subst (λ g. IsOneOf g fs) (sym r.2) (held r.0 r.1).1

  -- each of them has one of its id there, which is one of them too
  pub by_id_has : (f : FieldDef) → IsOneOf f fs → (g : FieldDef) × IsOneOf g (by_id fs) × IsOneOf g fs × (g.id ≡ f.id)
  by_id_has f i =
      let r = from_map (λ (e : ℕ × FieldDef). e.0) f.id (put_all [] fs) (all_keys f.id fs [] (inl (to_map (λ (g : FieldDef). g.id) f fs i))) in
      let h = held r.0 r.1 in
      (r.0.1, to_map (λ (e : ℕ × FieldDef). e.1) r.0 (put_all [] fs) r.1, h.1, sym h.0 ∙ sym r.2)

  pub by_id_apart : are_apart (map (λ (f : FieldDef). f.id) (by_id fs)) ≡ true
  by_id_apart = ap are_apart (ids_are_keys fs (put_all [] fs) held) ∙ keys_apart (put_all [] fs) (all_sorted fs [] tt)

  pub by_id_in_order : ((f : FieldDef) → IsOneOf f fs → f.current ≡ false) → are_in_order (by_id fs) ≡ true
  by_id_in_order past = in_order fs (put_all [] fs) held (λ e i. past e.1 (held e i).1) (all_sorted fs [] tt)
