-- A field with a name that is free around its class: no two fields of one object have one name.
use Rattle.std.proofs.Common.{◌≡◌, ◌⊎◌, refl, sym, ap, ◌∙◌, subst, ℕ, zero, suc, ◌+◌, ◌≤◌, inl, inr, Bool, true, false, not, ◌&&◌, ◌||◌, ◌==◌, List, [], ◌∷◌, map, find, slice_get, Option, Some, None, is_some, cond, arith, true≢false}
use Rattle.std.specs.List.{list_any, enumerate_from}
use Rattle.std.specs.Cmp.Lexicographic.{nat_list_eq_equiv}
use Rattle.std.proofs.lemmas.Bool.{and_parts, and_from, ne_eqb, eq-eqb, eqb-true, cases_eq, not-true, or_parts}
use Rattle.std.proofs.lemmas.List.{map-append}
use Rattle.oc_model.specs.declared.schema.FieldDef.{FieldDef}
use Rattle.oc_model.specs.declared.schema.ClassDef.{ClassDef}
use Rattle.oc_model.specs.Lists.{IsOneOf}
use Rattle.oc_model.specs.Maps.{Text, same, are_distinct}
use Rattle.oc_model.specs.Schemas.{Schema, class_at, current, own_fields, parent_of, fields_within, below_within, fields_of, is_sub}
use Rattle.oc_model.specs.SchemaRules.{numbered, is_above, are_apart, has_earlier_parents}
use Rattle.oc_model.specs.SchemaSteps.{is_called, is_taken_around}
use Rattle.oc_model.proofs.Elements.{in_append, any_passes, or_right}
use Rattle.oc_model.proofs.SchemaLaws.{same_text}
use Rattle.oc_schema.proofs.Ancestry.{parent_smaller, sub_step, sub_none}
use Rattle.oc_refactor.proofs.Apart.{apart_parts}
use Rattle.oc_refactor.proofs.OneField.{ids_in, among_ids, at_id}

-- ---- the classes that a class is below

pub or_cases : (a b : Bool) → (a || b) ≡ true → (a ≡ true) ⊎ (b ≡ true)
or_cases true b h = inl refl
or_cases false b h = inr h

-- of two that a class is below, one is below the other
below_both : (n e a b : ℕ) (s : Schema) → has_earlier_parents s ≡ true → e ≤ n → 1 ≤ a → 1 ≤ b → is_sub s e a ≡ true → is_sub s e b ≡ true → (is_sub s a b ≡ true) ⊎ (is_sub s b a ≡ true)
below_both n zero a b s early le pa pb h k = absurd (true≢false (sym h ∙ sub_none s a))
below_both zero (suc e) a b s early le pa pb h k = absurd (omega arith)
below_both (suc n) (suc e) a b s early le pa pb h k =
    let up = parent_smaller s (suc e) early (omega arith) in
    elim (or_cases (suc e == a) _ (sym (sub_step s (suc e) a early (omega arith) pa) ∙ h)) as (λ _. (is_sub s a b ≡ true) ⊎ (is_sub s b a ≡ true)) [
      | inl here ↦ let q : suc e ≡ a = eqb-true (suc e) a here in inl (ap (λ x. is_sub s x b) (sym q) ∙ k)
      | inr above ↦ (elim (or_cases (suc e == b) _ (sym (sub_step s (suc e) b early (omega arith) pb) ∙ k)) as (λ _. (is_sub s a b ≡ true) ⊎ (is_sub s b a ≡ true)) [
        | inl here ↦ let q : suc e ≡ b = eqb-true (suc e) b here in inr (ap (λ x. is_sub s x a) (sym q) ∙ h)
        | inr too ↦ below_both n (parent_of (class_at s (suc e))) a b s early (omega arith) pa pb above too
      ])
    ]

-- where a field of a class is declared
pub record Declares (s : Schema) (c : ℕ) (f : FieldDef) : Type 0 where
  pub at : ℕ
  pub class : ClassDef
  pub there : class_at s at ≡ Some class
  pub own : IsOneOf f (current class.fields)
  pub above : is_sub s c at ≡ true

pub own_is_one : (f : FieldDef) (o : Option ClassDef) → IsOneOf f (own_fields o) → (d : ClassDef) × (o ≡ Some d) × IsOneOf f (current d.fields)
own_is_one f None h = absurd h
own_is_one f (Some d) h = (d, refl, h)

declared_within : (n c : ℕ) (s : Schema) (f : FieldDef) → IsOneOf f (fields_within n s c) → (a : ℕ) × (d : ClassDef) × (class_at s a ≡ Some d) × IsOneOf f (current d.fields) × (below_within n s c a ≡ true)
declared_within zero c s f h = absurd h
declared_within (suc n) c s f h =
    elim (in_append f (fields_within n s (parent_of (class_at s c))) (own_fields (class_at s c)) h) as (λ _. (a : ℕ) × (d : ClassDef) × (class_at s a ≡ Some d) × IsOneOf f (current d.fields) × (below_within (suc n) s c a ≡ true)) [
      | inl up ↦ let r = declared_within n (parent_of (class_at s c)) s f up in (r.0, r.1, r.2, r.3, or_right (c == r.0) _ r.4)
      | inr own ↦ let r = own_is_one f (class_at s c) own in (c, r.0, r.1, r.2, ap (λ t. t || below_within n s (parent_of (class_at s c)) c) (eq-eqb c c refl))
    ]

pub declares : (s : Schema) (c : ℕ) (f : FieldDef) → IsOneOf f (fields_of s c) → Declares s c f
unfolding fields_of is_sub
declares s c f h = let r = declared_within c c s f h in record { at = r.0; class = r.1; there = r.2; own = r.3; above = r.4 }

-- ---- an id stands in one class

pub one_place : (id : ℕ) (cs : List ClassDef) (i j : ℕ) (d e : ClassDef) → are_apart (ids_in cs) ≡ true → slice_get cs i ≡ Some d → slice_get cs j ≡ Some e
    → IsOneOf id (map (λ (f : FieldDef). f.id) d.fields) → IsOneOf id (map (λ (f : FieldDef). f.id) e.fields) → i ≡ j
one_place id [] i j d e a h k p q = absurd (cc)
one_place id (c ∷ cs) zero zero d e a h k p q = refl
one_place id (c ∷ cs) zero (suc j) d e a h k p q =
    let r = apart_parts (map (λ (f : FieldDef). f.id) c.fields) (ids_in cs) (sym (ap are_apart (map-append (λ (f : FieldDef). f.id) c.fields _)) ∙ a) in
    let same : d ≡ c = cc in
    absurd (r.2 id (subst (λ (b : ClassDef). IsOneOf id (map (λ (f : FieldDef). f.id) b.fields)) same p) (among_ids id (λ f. f) cs j e k q))
one_place id (c ∷ cs) (suc i) zero d e a h k p q =
    let r = apart_parts (map (λ (f : FieldDef). f.id) c.fields) (ids_in cs) (sym (ap are_apart (map-append (λ (f : FieldDef). f.id) c.fields _)) ∙ a) in
    let same : e ≡ c = cc in
    absurd (r.2 id (subst (λ (b : ClassDef). IsOneOf id (map (λ (f : FieldDef). f.id) b.fields)) same q) (among_ids id (λ f. f) cs i d h p))
one_place id (c ∷ cs) (suc i) (suc j) d e a h k p q =
    let r = apart_parts (map (λ (f : FieldDef). f.id) c.fields) (ids_in cs) (sym (ap are_apart (map-append (λ (f : FieldDef). f.id) c.fields _)) ∙ a) in
    ap suc (one_place id cs i j d e r.1 h k p q)

pub some_place : (s : Schema) (a : ℕ) (d : ClassDef) → class_at s a ≡ Some d → (i : ℕ) × (a ≡ suc i) × (slice_get s.classes i ≡ Some d)
some_place s zero d h = absurd (cc)
some_place s (suc i) d h = (i, refl, h)

pub first_class : (s : Schema) (a : ℕ) (d : ClassDef) → class_at s a ≡ Some d → 1 ≤ a
first_class s a d h = let p = some_place s a d h in let q = p.1 in omega arith

pub one_class : (id : ℕ) (s : Schema) (a b : ℕ) (d e : ClassDef) → are_apart (ids_in s.classes) ≡ true → class_at s a ≡ Some d → class_at s b ≡ Some e
    → IsOneOf id (map (λ (f : FieldDef). f.id) d.fields) → IsOneOf id (map (λ (f : FieldDef). f.id) e.fields) → a ≡ b
one_class id s a b d e apart h k p q =
    let i = some_place s a d h in
    let j = some_place s b e k in
    i.1 ∙ ap suc (one_place id s.classes i.0 j.0 d e apart i.2 j.2 p q) ∙ sym j.1

-- ---- names that are free

numbered_is_one : (n i : ℕ) (cs : List ClassDef) (d : ClassDef) → slice_get cs i ≡ Some d → IsOneOf {X = ℕ × ClassDef} (n + i, d) (enumerate_from n cs)
numbered_is_one n i [] d h = absurd (cc)
numbered_is_one n zero (c ∷ cs) d h = let q : d ≡ c = cc in let z : n + 0 ≡ n = omega arith in inl (λ j. (z j, q j))
numbered_is_one n (suc i) (c ∷ cs) d h = let e : n + 1 + i ≡ n + suc i = omega arith in inr (subst (λ m. IsOneOf {X = ℕ × ClassDef} (m, d) (enumerate_from (n + 1) cs)) e (numbered_is_one (n + 1) i cs d h))

pub class_numbered : (s : Schema) (a : ℕ) (d : ClassDef) → class_at s a ≡ Some d → IsOneOf {X = ℕ × ClassDef} (a, d) (numbered s)
class_numbered s zero d h = absurd (cc)
class_numbered s (suc i) d h = let e : 1 + i ≡ suc i = omega arith in subst (λ m. IsOneOf {X = ℕ × ClassDef} (m, d) (numbered s)) e (numbered_is_one 1 i s.classes d h)

found_some : {X : Type 0} (p : X → Bool) (x : X) (xs : List X) → IsOneOf x xs → p x ≡ true → is_some (find p xs) ≡ true
found_some p x [] i h = absurd i
found_some p x (y ∷ xs) i h =
    (elim (p y) as (λ b. p y ≡ b → is_some (cond b (Some y) (find p xs)) ≡ true) [
      | true ↦ λ e. refl
      | false ↦ λ e. elim i as (λ _. is_some (find p xs) ≡ true) [ inl q ↦ absurd (true≢false (sym h ∙ ap p q ∙ e)) | inr j ↦ found_some p x xs j h ]
    ]) refl

-- a name that neither the class nor one around it has, none of its objects has
pub free_around : (s : Schema) (k c : ℕ) (d : ClassDef) (to : Text) (y : FieldDef) → has_earlier_parents s ≡ true → 1 ≤ k → class_at s k ≡ Some d
    → is_some (find (is_called to) (current d.fields)) ≡ false → is_taken_around s k to ≡ false
    → is_sub s c k ≡ true → IsOneOf y (fields_of s c) → same y.name to ≡ true → ⊥
free_around s k c d to y early some here own around above i named =
    let r = declares s c y i in
    let first : 1 ≤ r.at = (let p = some_place s r.at r.class r.there in let q = p.1 in omega arith) in
    let taken : list_any (is_called to) (current r.class.fields) ≡ true = any_passes (is_called to) y (current r.class.fields) r.own named in
    elim (cases_eq k r.at) as (λ _. ⊥) [
      | inl same ↦
          let q : d ≡ r.class = (let z = sym here ∙ ap (class_at s) same ∙ r.there in cc) in
          true≢false (sym (found_some (is_called to) y (current r.class.fields) r.own named) ∙ ap (λ (b : ClassDef). is_some (find (is_called to) (current b.fields))) (sym q) ∙ own)
      | inr other ↦
          let related : (is_above s r.at k || is_above s k r.at) ≡ true =
          (elim (below_both c c k r.at s early (omega arith) some first above r.above) as (λ _. (is_above s r.at k || is_above s k r.at) ≡ true) [
            | inl up ↦ ap (λ t. t || is_above s k r.at) (and_from _ _ (ap not (ne_eqb r.at k (λ q. other (sym q)))) up)
            | inr down ↦ or_right (is_above s r.at k) _ (and_from _ _ (ap not (ne_eqb k r.at other)) down)
          ]) in
          true≢false (sym (any_passes (λ (e : ℕ × ClassDef). (is_above s e.0 k || is_above s k e.0) && list_any (is_called to) (current (e.1).fields)) (r.at, r.class) (numbered s) (class_numbered s r.at r.class r.there) (and_from _ _ related taken)) ∙ around)
    ]

-- ---- a field with another name

pub is_false : (b : Bool) → (b ≡ true → ⊥) → b ≡ false
is_false true h = absurd (h refl)
is_false false h = refl

distinct_first : (t : Text) (fs : List FieldDef) → are_distinct (t ∷ map (λ (f : FieldDef). f.name) fs) ≡ true → ((f : FieldDef) → IsOneOf f fs → same t f.name ≡ false) × (are_distinct (map (λ (f : FieldDef). f.name) fs) ≡ true)
distinct_first t fs h = let r = and_parts (not (list_any (same t) (map (λ (f : FieldDef). f.name) fs))) _ h in (none t fs (not-true _ r.0), r.1)
  where
    none : (t : Text) (fs : List FieldDef) → list_any (same t) (map (λ (f : FieldDef). f.name) fs) ≡ false → (f : FieldDef) → IsOneOf f fs → same t f.name ≡ false
    none t [] h f i = absurd i
    none t (g ∷ fs) h f i =
        let r = or_parts (same t g.name) (list_any (same t) (map (λ (f : FieldDef). f.name) fs)) h in
        elim i as (λ _. same t f.name ≡ false) [ inl q ↦ ap (λ (x : FieldDef). same t x.name) q ∙ r.0 | inr j ↦ none t fs r.1 f j ]

pub none_named : (g : FieldDef → FieldDef) (t : Text) (fs : List FieldDef) → ((f : FieldDef) → IsOneOf f fs → same t (g f).name ≡ false) → list_any (same t) (map (λ (f : FieldDef). f.name) (map g fs)) ≡ false
none_named g t [] h = refl
none_named g t (f ∷ fs) h = λ i. h f (inl refl) i || none_named g t fs (λ x j. h x (inr j)) i

module _ (id : ℕ) (to : Text) where
  abbrev renamed : FieldDef → FieldDef
  renamed f = record f { name = to }

  -- Where a field has the id, no field has the new name, and no other has the id.
  pub names_distinct : (fs : List FieldDef) → are_distinct (map (λ (f : FieldDef). f.name) fs) ≡ true
      → ((x y : FieldDef) → IsOneOf x fs → IsOneOf y fs → x.id ≡ id → same y.name to ≡ true → ⊥)
      → ((x y : FieldDef) → IsOneOf x fs → IsOneOf y fs → x.id ≡ id → y.id ≡ id → x ≡ y)
      → are_distinct (map (λ (f : FieldDef). f.name) (map (at_id id renamed) fs)) ≡ true
  names_distinct [] h free one = refl
  names_distinct (x ∷ fs) h free one =
      let r = distinct_first x.name fs h in
      let other : (y : FieldDef) → IsOneOf y fs → same (at_id id renamed x).name (at_id id renamed y).name ≡ false = λ y j.
      (elim (x.id == id) as (λ b. (x.id == id) ≡ b → same (cond b (renamed x) x).name (at_id id renamed y).name ≡ false) [
        | true ↦ λ p. (elim (y.id == id) as (λ b. (y.id == id) ≡ b → same to (cond b (renamed y) y).name ≡ false) [
          | true ↦ λ q.
              let e : x ≡ y = one x y (inl refl) (inr j) (eqb-true x.id id p) (eqb-true y.id id q) in
              absurd (true≢false (sym (same_text x.name) ∙ ap (λ (z : FieldDef). same x.name z.name) e ∙ r.0 y j))
          | false ↦ λ q. is_false _ (λ t. free x y (inl refl) (inr j) (eqb-true x.id id p) (nat_list_eq_equiv.symm y.name to ∙ t))
        ]) refl
        | false ↦ λ p. (elim (y.id == id) as (λ b. (y.id == id) ≡ b → same x.name (cond b (renamed y) y).name ≡ false) [
          | true ↦ λ q. is_false _ (free y x (inr j) (inl refl) (eqb-true y.id id q))
          | false ↦ λ q. r.0 y j
        ]) refl
      ]) refl in
      and_from _ _ (ap not (none_named (at_id id renamed) (at_id id renamed x).name fs other))
      (names_distinct fs r.1 (λ a b i j. free a b (inr i) (inr j)) (λ a b i j. one a b (inr i) (inr j)))
