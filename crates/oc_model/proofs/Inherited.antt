-- The fields of a class are those of an ancestor and more, and all of them are fields of the schema.
use Rattle.std.proofs.Common.{◌≡◌, refl, sym, ap, ◌∙◌, subst, ℕ, zero, suc, ◌≤◌, inl, inr, true, false, ◌||◌, ◌==◌, List, [], ◌∷◌, ◌++◌, Some, None, slice_get, map, find, append-nil, append_assoc, true≢false, arith}
use Rattle.std.specs.Option.{option_or}
use Rattle.std.proofs.lemmas.Bool.{and_parts, eqb-true, not-true}
use Rattle.std.proofs.lemmas.List.Folds.{find-append}
use Rattle.oc_model.specs.declared.schema.FieldDef.{FieldDef}
use Rattle.oc_model.specs.declared.schema.ClassDef.{ClassDef}
use Rattle.oc_model.specs.Maps.{Text, same, is_in}
use Rattle.oc_model.specs.Lists.{IsOneOf}
use Rattle.oc_model.specs.Schemas.{Schema, class_at, parent_of, own_fields, fields_within, below_within, fields_of, field_named, is_sub}
use Rattle.oc_model.specs.SchemaRules.{numbered, all_fields, are_apart}
use Rattle.oc_model.specs.StoreRules.{known_fields}
use Rattle.oc_model.proofs.Elements.{in_append, from_filter, from_flat_map, to_flat_map, from_numbered, found_in, is_among, to_map}
use Rattle.oc_model.proofs.NewClass.{IsEarlier, no_fields}

-- ---- the fields of a class below

-- more fuel than the class's number changes nothing
pub fields_same : (m n c : ℕ) (s : Schema) → IsEarlier s → c ≤ m → c ≤ n → fields_within m s c ≡ fields_within n s c
fields_same m n zero s e p q = no_fields m s ∙ sym (no_fields n s)
fields_same zero n (suc c) s e p q = absurd (omega arith)
fields_same (suc m) zero (suc c) s e p q = absurd (omega arith)
fields_same (suc m) (suc n) (suc c) s e p q =
    let up = e c in
    ap (λ fields. fields ++ own_fields (class_at s (suc c))) (fields_same m n (parent_of (class_at s (suc c))) s e (omega arith) (omega arith))

pub parent_below : (n a : ℕ) (s : Schema) → IsEarlier s → a ≤ suc n → parent_of (class_at s a) ≤ n
parent_below n zero s e p = omega arith
parent_below n (suc a) s e p = let up = e a in omega arith

below_more : (n a b : ℕ) (s : Schema) → IsEarlier s → a ≤ n → below_within n s a b ≡ true → (more : List FieldDef) × (fields_within n s a ≡ fields_within b s b ++ more)
below_more zero a b s e p h = absurd (true≢false (sym h))
below_more (suc n) a b s e p h =
    let q = parent_of (class_at s a) in
    (elim (a == b) as (λ t. (a == b) ≡ t → (t || below_within n s q b) ≡ true → (more : List FieldDef) × (fields_within (suc n) s a ≡ fields_within b s b ++ more)) [
      | true ↦ λ t h. let same : a ≡ b = eqb-true a b t in
          ([], ap (fields_within (suc n) s) same ∙ fields_same (suc n) b b s e (omega arith) (omega arith) ∙ sym (append-nil (fields_within b s b)))
      | false ↦ λ t h. let r = below_more n q b s e (parent_below n a s e p) h in
          (r.0 ++ own_fields (class_at s a), ap (λ fields. fields ++ own_fields (class_at s a)) r.1 ∙ append_assoc (fields_within b s b) r.0 (own_fields (class_at s a)))
    ]) refl h

-- a class below one has its fields and more
pub fields_below : (s : Schema) (d c : ℕ) → IsEarlier s → is_sub s d c ≡ true → (more : List FieldDef) × (fields_of s d ≡ fields_of s c ++ more)
unfolding fields_of is_sub
fields_below s d c e h = below_more d d c s e (omega arith) h

-- and so the same field of a name, if the one above has one
pub named_below : (s : Schema) (d c : ℕ) (name : Text) (f : FieldDef) → IsEarlier s → is_sub s d c ≡ true → field_named s c name ≡ Some f → field_named s d name ≡ Some f
unfolding field_named
named_below s d c name f e h n =
    let r = fields_below s d c e h in
    ap (find (λ g. same g.name name)) r.1 ∙ find-append (λ g. same g.name name) (fields_of s c) r.0 ∙ ap (λ o. option_or o (find (λ g. same g.name name) r.0)) n

pub named_is_one : (s : Schema) (c : ℕ) (name : Text) (f : FieldDef) → field_named s c name ≡ Some f → IsOneOf f (fields_of s c)
unfolding field_named
named_is_one s c name f h = (found_in (λ g. same g.name name) f (fields_of s c) h).0

-- ---- fields of the schema

class_is_one : (d : ClassDef) (i : ℕ) (cs : List ClassDef) → slice_get cs i ≡ Some d → IsOneOf d cs
class_is_one d i [] h = absurd (cc)
class_is_one d zero (c ∷ cs) h = let q : c ≡ d = cc in inl (sym q)
class_is_one d (suc i) (c ∷ cs) h = inr (class_is_one d i cs h)

own_in_all : (f : FieldDef) (s : Schema) (c : ℕ) → IsOneOf f (own_fields (class_at s c)) → IsOneOf f (all_fields s)
own_in_all f s zero h = absurd h
own_in_all f s (suc i) h =
    (elim (slice_get s.classes i) as (λ o. slice_get s.classes i ≡ o → IsOneOf f (own_fields o) → IsOneOf f (all_fields s)) [
      | None ↦ λ e h. absurd h
      | Some d ↦ λ e h. to_flat_map (λ (k : ClassDef). k.fields) f d s.classes (class_is_one d i s.classes e) (from_filter (λ (g : FieldDef). g.current) f d.fields h).0
    ]) refl h

within_in_all : (n : ℕ) (f : FieldDef) (s : Schema) (c : ℕ) → IsOneOf f (fields_within n s c) → IsOneOf f (all_fields s)
within_in_all zero f s c h = absurd h
within_in_all (suc n) f s c h =
    elim (in_append f (fields_within n s (parent_of (class_at s c))) (own_fields (class_at s c)) h) as (λ _. IsOneOf f (all_fields s)) [
      | inl a ↦ within_in_all n f s (parent_of (class_at s c)) a
      | inr b ↦ own_in_all f s c b
    ]

pub current_in_all : (f : FieldDef) (s : Schema) (c : ℕ) → IsOneOf f (fields_of s c) → IsOneOf f (all_fields s)
unfolding fields_of
current_in_all f s c h = within_in_all c f s c h

pub known_in_all : (f : FieldDef) (s : Schema) (c : ℕ) → IsOneOf f (known_fields s c) → IsOneOf f (all_fields s)
unfolding known_fields
known_in_all f s c h =
    let r = from_flat_map (λ (e : ℕ × ClassDef). (e.1).fields) f _ h in
    let k = from_filter (λ (e : ℕ × ClassDef). is_sub s c e.0) r.0 (numbered s) r.1 in
    to_flat_map (λ (k : ClassDef). k.fields) f (r.0).1 s.classes (from_numbered 1 r.0 s.classes k.0) r.2

-- ---- no two fields have one id

not_in : (n : ℕ) (ns : List ℕ) → IsOneOf n ns → is_in ns n ≡ false → ⊥
not_in n ns h e = true≢false (sym (is_among n ns h) ∙ e)

pub apart_same : (f g : FieldDef) (fs : List FieldDef) → are_apart (map (λ h. h.id) fs) ≡ true → IsOneOf f fs → IsOneOf g fs → f.id ≡ g.id → f ≡ g
apart_same f g [] a p q e = absurd p
apart_same f g (h ∷ fs) a p q e =
    let r = and_parts _ _ a in
    let other : (k : FieldDef) → IsOneOf k fs → k.id ≡ h.id → ⊥ = λ k i d. not_in h.id (map (λ (m : FieldDef). m.id) fs) (subst (λ n. IsOneOf n (map (λ (m : FieldDef). m.id) fs)) d (to_map (λ (m : FieldDef). m.id) k fs i)) (not-true _ r.0) in
    elim p as (λ _. f ≡ g) [
      | inl x ↦ (elim q as (λ _. f ≡ g) [ inl y ↦ x ∙ sym y | inr t ↦ absurd (other g t (sym e ∙ ap (λ (m : FieldDef). m.id) x)) ])
      | inr u ↦ (elim q as (λ _. f ≡ g) [ inl y ↦ absurd (other f u (e ∙ ap (λ (m : FieldDef). m.id) y)) | inr t ↦ apart_same f g fs r.1 u t e ])
    ]
