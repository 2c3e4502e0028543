-- A record that is written from values of its fields' kinds suits the schema, and a store with it keeps the rules.
use Rattle.std.proofs.Common.{◌≡◌, refl, sym, ap, ◌∙◌, subst, ℕ, zero, suc, ◌+◌, ◌<◌, ◌≤◌, inl, inr, T, Bool, true, false, cond, ◌||◌, ◌==◌, nat_lt, List, [], ◌∷◌, Some, None, map, fold, slice_get, nat_cmp, IsTrue, arith}
use Rattle.std.specs.List.{list_all, enumerate_from}
use Rattle.std.specs.Ordering.{eq_by_cmp}
use Rattle.std.specs.Cmp.{nat_cmp_total}
use Rattle.std.specs.FinMap.Entries.{find-put, is_sorted-put}
use Rattle.std.proofs.lemmas.Map.Lookups.{exact_unsigned}
use Rattle.std.proofs.lemmas.Bool.{and_parts, and_from, eqb-true, eqb-false, ltb-false, lt-ltb, eq-eqb}
use Rattle.oc_model.specs.declared.value.Value.{Value}
use Rattle.oc_model.specs.declared.value.Entry.{Entry}
use Rattle.oc_model.specs.declared.value.Rec.{Rec}
use Rattle.oc_model.specs.declared.schema.FieldDef.{FieldDef}
use Rattle.oc_model.specs.declared.schema.ClassDef.{ClassDef}
use Rattle.oc_model.specs.Maps.{Map, at, with_at}
use Rattle.oc_model.specs.Lists.{IsOneOf}
use Rattle.oc_model.specs.Values.{fits}
use Rattle.oc_model.specs.Schemas.{Schema, class_at, parent_of, own_fields, fields_within, below_within, fields_of, is_sub}
use Rattle.oc_model.specs.SchemaRules.{numbered}
use Rattle.oc_model.specs.Stores.{Store, entered, entry_for, value_in, written}
use Rattle.oc_model.specs.Spelling.{entry_fits}
use Rattle.oc_model.specs.StoreRules.{known_fields, is_under, is_known, are_ascending, Suits, KeepsStore}
use Rattle.oc_model.proofs.Elements.{in_append, from_filter, to_filter, to_flat_map, any_passes, or_right}
use Rattle.oc_model.proofs.Reaching.{is_equal, of_true}
use Rattle.oc_model.proofs.SchemaLaws.{same_number}

-- ---- current fields are known

class_numbered : (n i : ℕ) (d : ClassDef) (cs : List ClassDef) → slice_get cs i ≡ Some d → IsOneOf {X = ℕ × ClassDef} (n + i, d) (enumerate_from n cs)
class_numbered n i d [] h = absurd (cc)
class_numbered n zero d (c ∷ cs) h = inl (let q : c ≡ d = cc in let z : n + 0 ≡ n = omega arith in λ i. (z i, sym q i))
class_numbered n (suc i) d (c ∷ cs) h =
    let z : n + 1 + i ≡ n + suc i = omega arith in
    inr (subst (λ m. IsOneOf {X = ℕ × ClassDef} (m, d) (enumerate_from (n + 1) cs)) z (class_numbered (n + 1) i d cs h))

-- a field of a class that the class is or is below
abbrev IsFrom : Schema → FieldDef → (ℕ → Bool) → Type 0
IsFrom s f below = (b : ℕ) × (d : ClassDef) × IsOneOf {X = ℕ × ClassDef} (b, d) (numbered s) × IsOneOf f d.fields × (below b ≡ true)

own_from : (s : Schema) (f : FieldDef) (c : ℕ) → IsOneOf f (own_fields (class_at s c)) → IsFrom s f (λ b. c == b)
own_from s f zero h = absurd h
own_from s f (suc i) h =
    (elim (slice_get s.classes i) as (λ o. slice_get s.classes i ≡ o → IsOneOf f (own_fields o) → IsFrom s f (λ b. suc i == b)) [
      | None ↦ λ e h. absurd h
      | Some d ↦ λ e h. (1 + i, d, class_numbered 1 i d s.classes e, (from_filter (λ (g : FieldDef). g.current) f d.fields h).0, eq-eqb (suc i) (1 + i) (omega arith))
    ]) refl h

within_from : (n : ℕ) (s : Schema) (f : FieldDef) (c : ℕ) → IsOneOf f (fields_within n s c) → IsFrom s f (λ b. below_within n s c b)
within_from zero s f c h = absurd h
within_from (suc n) s f c h =
    elim (in_append f (fields_within n s (parent_of (class_at s c))) (own_fields (class_at s c)) h) as (λ _. IsFrom s f (λ b. below_within (suc n) s c b)) [
      | inl a ↦ let r = within_from n s f (parent_of (class_at s c)) a in (r.0, r.1, r.2, r.3, or_right (c == r.0) _ r.4)
      | inr b ↦ let r = own_from s f c b in (r.0, r.1, r.2, r.3, ap (λ t. t || below_within n s (parent_of (class_at s c)) r.0) r.4)
    ]

current_known : (s : Schema) (f : FieldDef) (c : ℕ) → IsOneOf f (fields_of s c) → IsOneOf f (known_fields s c)
unfolding fields_of known_fields is_sub
current_known s f c h =
    let r = within_from c s f c h in
    to_flat_map (λ (e : ℕ × ClassDef). (e.1).fields) f (r.0, r.1) _ (to_filter (λ (e : ℕ × ClassDef). is_sub s c e.0) (r.0, r.1) (numbered s) r.2 r.4) r.3

-- ---- an entry more

all_entered : (p : Entry → Bool) (e : Entry) (es : List Entry) → p e ≡ true → list_all p es ≡ true → list_all p (entered e es) ≡ true
all_entered p e [] h k = and_from (p e) true h refl
all_entered p e (f ∷ fs) h k =
    let r = and_parts (p f) (list_all p fs) k in
    elim (e.id == f.id) as (λ t. list_all p (cond t (e ∷ fs) (cond (nat_lt e.id f.id) (e ∷ f ∷ fs) (f ∷ entered e fs))) ≡ true) [
      | true ↦ and_from _ _ h r.1
      | false ↦ elim (nat_lt e.id f.id) as (λ t. list_all p (cond t (e ∷ f ∷ fs) (f ∷ entered e fs)) ≡ true) [ true ↦ and_from _ _ h k | false ↦ and_from _ _ r.0 (all_entered p e fs h r.1) ]
    ]

abbrev ids : List Entry → List ℕ
ids es = map (λ (e : Entry). e.id) es

-- the number is less than the first of these
abbrev is_before : ℕ → List ℕ → Bool
is_before n [] = true
is_before n (m ∷ ns) = nat_lt n m

ascends : (n : ℕ) (ns : List ℕ) → is_before n ns ≡ true → are_ascending ns ≡ true → are_ascending (n ∷ ns) ≡ true
ascends n [] h k = refl
ascends n (m ∷ ns) h k = and_from _ _ h k

ascended : (n : ℕ) (ns : List ℕ) → are_ascending (n ∷ ns) ≡ true → (is_before n ns ≡ true) × (are_ascending ns ≡ true)
ascended n [] h = (refl, refl)
ascended n (m ∷ ns) h = and_parts _ _ h

before_entered : (n : ℕ) (e : Entry) (es : List Entry) → nat_lt n e.id ≡ true → is_before n (ids es) ≡ true → is_before n (ids (entered e es)) ≡ true
before_entered n e [] h k = h
before_entered n e (f ∷ fs) h k =
    elim (e.id == f.id) as (λ t. is_before n (ids (cond t (e ∷ fs) (cond (nat_lt e.id f.id) (e ∷ f ∷ fs) (f ∷ entered e fs)))) ≡ true) [
      | true ↦ h
      | false ↦ elim (nat_lt e.id f.id) as (λ t. is_before n (ids (cond t (e ∷ f ∷ fs) (f ∷ entered e fs))) ≡ true) [ true ↦ h | false ↦ k ]
    ]

ascending_entered : (e : Entry) (es : List Entry) → are_ascending (ids es) ≡ true → are_ascending (ids (entered e es)) ≡ true
ascending_entered e [] h = refl
ascending_entered e (f ∷ fs) h =
    let r = ascended f.id (ids fs) h in
    (elim (e.id == f.id) as (λ t. (e.id == f.id) ≡ t → are_ascending (ids (cond t (e ∷ fs) (cond (nat_lt e.id f.id) (e ∷ f ∷ fs) (f ∷ entered e fs)))) ≡ true) [
      | true ↦ λ q. ap (λ n. are_ascending (n ∷ ids fs)) (eqb-true e.id f.id q) ∙ h
      | false ↦ λ q.
          (elim (nat_lt e.id f.id) as (λ t. nat_lt e.id f.id ≡ t → are_ascending (ids (cond t (e ∷ f ∷ fs) (f ∷ entered e fs))) ≡ true) [
            | true ↦ λ less. ascends e.id (ids (f ∷ fs)) less h
            | false ↦ λ less.
                let above : nat_lt f.id e.id ≡ true = greater e.id f.id q less in
                ascends f.id (ids (entered e fs)) (before_entered f.id e fs above r.0) (ascending_entered e fs r.1)
          ]) refl
    ]) refl
  where
    greater : (m n : ℕ) → (m == n) ≡ false → nat_lt m n ≡ false → nat_lt n m ≡ true
    greater m n p q = let a = eqb-false m n p in let b = ltb-false m n q in lt-ltb n m (omega arith)

-- ---- the record

suits_entered : (s : Schema) (c : ℕ) (es : List Entry) (f : FieldDef) (v : Value) → IsOneOf f (fields_of s c) → fits f.kind v ≡ true
    → Suits s (record { class = c; entries = es }) → Suits s (record { class = c; entries = entered (entry_for f v) es })
suits_entered s c es f v i h suits =
    let e = entry_for f v in
    let known : is_known s c e ≡ true = any_passes (λ g. is_under g e) f (known_fields s c) (current_known s f c i) (and_from _ _ (same_number f.id) (same_number _)) in
    record {
      class = suits.class;
      known = all_entered (is_known s c) e es known suits.known;
      fits = all_entered entry_fits e es h suits.fits;
      by_id = ascending_entered e es suits.by_id;
    }

fields_written : (s : Schema) (c : ℕ) (values : List Entry) (fs : List FieldDef) (es : List Entry) → ((f : FieldDef) → IsOneOf f fs → IsOneOf f (fields_of s c))
    → ((f : FieldDef) → IsOneOf f (fields_of s c) → IsTrue (fits f.kind (value_in values f.id f.kind))) → Suits s (record { class = c; entries = es })
    → Suits s (record { class = c; entries = fold (λ es f. entered (entry_for f (value_in values f.id f.kind)) es) es fs })
fields_written s c values [] es each fit suits = suits
fields_written s c values (f ∷ fs) es each fit suits =
    fields_written s c values fs (entered (entry_for f (value_in values f.id f.kind)) es) (λ g i. each g (inr i)) fit
    (suits_entered s c es f (value_in values f.id f.kind) (each f (inl refl)) (fit f (each f (inl refl))) suits)

pub written_suits : (s : Schema) (c : ℕ) (values old : List Entry) → Suits s (record { class = c; entries = old })
    → ((f : FieldDef) → IsOneOf f (fields_of s c) → IsTrue (fits f.kind (value_in values f.id f.kind))) → Suits s (record { class = c; entries = written s c values old })
unfolding written
written_suits s c values old suits fit = fields_written s c values (fields_of s c) old (λ f i. i) fit suits

-- ---- the store

each_with : (m : Map Rec) (n : ℕ) (r : Rec) (P : ℕ → Rec → Type 0) → ((k : ℕ) (v : Rec) → at m k ≡ Some v → P k v) → P n r → (k : ℕ) (v : Rec) → at (with_at m n r) k ≡ Some v → P k v
each_with m n r P old new k v h =
    (elim (eq_by_cmp nat_cmp k n) as (λ b. eq_by_cmp nat_cmp k n ≡ b → cond b (Some r) (at m k) ≡ Some v → P k v) [
      | true ↦ λ e h. let q : r ≡ v = cc in subst (λ j. P j v) (sym (exact_unsigned k n (is_equal _ e))) (subst (P n) q new)
      | false ↦ λ e h. old k v h
    ]) refl (sym (find-put nat_cmp nat_cmp_total k n r m) ∙ h)

pub with_record_keeps : (s : Store) (n next : ℕ) (r : Rec) → KeepsStore s → Suits s.schema r → 1 ≤ n → n < next → s.next ≤ next → next ≤ 2147483647
    → KeepsStore (record { schema = s.schema; next = next; records = with_at s.records n r })
with_record_keeps s n next r k suits from below more small =
    let some = k.some_next in
    record {
      schema = k.schema;
      some_next = omega arith;
      small_next = small;
      by_number = is_true _ (is_sorted-put nat_cmp nat_cmp_total n r s.records (of_true _ k.by_number));
      from_one = each_with s.records n r (λ m _. 1 ≤ m) k.from_one from;
      below_next = each_with s.records n r (λ m _. m < next) (λ m v e. let old = k.below_next m v e in omega arith) below;
      suit = each_with s.records n r (λ _ v. Suits s.schema v) k.suit suits;
    }
  where
    is_true : (b : Bool) → T b → b ≡ true
    is_true true h = refl
    is_true false h = absurd h
