-- With the fields of a class declared anew the rules hold where the limits do.
use Rattle.std.proofs.Common.{◌≡◌, ◌⊎◌, refl, sym, ap, ◌∙◌, subst, ℕ, zero, suc, ◌+◌, ◌≤◌, ◌<◌, inl, inr, Bool, true, false, not, ◌&&◌, ◌||◌, ◌==◌, nat_lt, nat_le, List, [], ◌∷◌, ◌++◌, length, map, filter, flat_map, slice_get, slice_set, Some, arith, true≢false, append-nil, append_assoc, length-append}
use Rattle.std.specs.List.{list_all, list_any, enumerate_from}
use Rattle.std.proofs.lemmas.Bool.{and_parts, and_from, or_parts, not-true, ne_eqb, eqb-true, cases_eq}
use Rattle.std.proofs.lemmas.Bool.Decides.{nat_tests}
use Rattle.std.proofs.lemmas.List.{map-append}
use Rattle.std.proofs.lemmas.List.Folds.{list_any-append}
use Rattle.std.specs.Cmp.Lexicographic.{nat_list_eq_equiv}
use Rattle.oc_model.specs.declared.command.Decl.{Decl}
use Rattle.oc_model.specs.declared.schema.FieldDef.{FieldDef}
use Rattle.oc_model.specs.declared.schema.ClassDef.{ClassDef}
use Rattle.oc_model.specs.Lists.{IsOneOf}
use Rattle.oc_model.specs.Maps.{Text, same, are_distinct}
use Rattle.oc_model.specs.Schemas.{Schema, class_at, current, own_fields, parent_of, fields_within, below_within, fields_of, is_sub}
use Rattle.oc_model.specs.SchemaRules.{is_name, numbered, all_fields, is_above, ancestors, are_apart, are_in_order, has_earlier_parents, has_distinct_names, is_within_limits, keeps_rules}
use Rattle.oc_model.specs.SchemaSteps.{is_called, is_taken_around, stated_fields, declared_fields, names_of}
use Rattle.oc_model.proofs.Elements.{in_append, in_left, in_right, from_map, from_flat_map, to_flat_map, any_passes, or_right, all_pass}
use Rattle.oc_model.proofs.Inherited.{fields_same}
use Rattle.oc_model.proofs.NewClass.{IsEarlier, is_earlier, all_kept}
use Rattle.oc_model.proofs.Rules.{rules_kept, limits_kept}
use Rattle.oc_schema.specs.ClassRules.{field_keeps}
use Rattle.oc_schema.specs.Drafts.{schema_of}
use Rattle.oc_schema.proofs.Ancestry.{sub_step, sub_self, sub_none}
use Rattle.oc_refactor.specs.Around.{fits_below, all_fit_below}
use Rattle.oc_refactor.proofs.AddedClass.{distinct_joined, none_of, any_none, names_in_class, more_ids}
use Rattle.oc_refactor.proofs.Apart.{apart_parts, apart_joined}
use Rattle.oc_refactor.proofs.Counting.{few_fields}
use Rattle.oc_refactor.proofs.DeclaredFields.{ids_of, new_ids, keeps_later, id_drawn, names_stated, length_stated, declared_current, declared_in_order, declared_keep, declared_apart, declared_ids}
use Rattle.oc_refactor.proofs.KeepsRules.{AllKeep, Parts, parts_keep, fields_keep_rules}
use Rattle.oc_refactor.proofs.OneClass.{class_is_one}
use Rattle.oc_refactor.proofs.OneField.{ids_in}
use Rattle.oc_refactor.proofs.Renaming.{length_kept, get_kept, numbers_kept, counted, all_kept as all_numbers_kept}
use Rattle.oc_refactor.proofs.Taken.{or_cases, own_is_one, declares, first_class, class_numbered, is_false}

-- ---- lists with one element replaced

set_here : (cs : List ClassDef) (k : ℕ) (d e : ClassDef) → slice_get cs k ≡ Some d → slice_get (slice_set cs k e) k ≡ Some e
set_here [] k d e h = absurd (cc)
set_here (c ∷ cs) zero d e h = refl
set_here (c ∷ cs) (suc k) d e h = set_here cs k d e h

set_other : (cs : List ClassDef) (k j : ℕ) (e : ClassDef) → (j ≡ k → ⊥) → slice_get (slice_set cs k e) j ≡ slice_get cs j
set_other [] k j e h = refl
set_other (c ∷ cs) zero zero e h = absurd (h refl)
set_other (c ∷ cs) zero (suc j) e h = refl
set_other (c ∷ cs) (suc k) zero e h = refl
set_other (c ∷ cs) (suc k) (suc j) e h = set_other cs k j e (λ q. h (ap suc q))

-- the others pass
all_set : (p : ClassDef → Bool) (cs : List ClassDef) (k : ℕ) (d e : ClassDef) → slice_get cs k ≡ Some d → list_all p cs ≡ true → list_all p (slice_set cs k e) ≡ p e
all_set p [] k d e h all = absurd (cc)
all_set p (c ∷ cs) zero d e h all = let r = and_parts (p c) (list_all p cs) all in ap (λ b. p e && b) r.1 ∙ and_true (p e)
  where
    and_true : (b : Bool) → (b && true) ≡ b
    and_true true = refl
    and_true false = refl
all_set p (c ∷ cs) (suc k) d e h all = let r = and_parts (p c) (list_all p cs) all in ap (λ b. b && list_all p (slice_set cs k e)) r.0 ∙ all_set p cs k d e h r.1

set_one : (cs : List ClassDef) (k : ℕ) (e x : ClassDef) → IsOneOf x (slice_set cs k e) → (x ≡ e) ⊎ IsOneOf x cs
set_one [] k e x i = absurd i
set_one (c ∷ cs) zero e x i = elim i as (λ _. (x ≡ e) ⊎ IsOneOf x (c ∷ cs)) [ inl q ↦ inl q | inr j ↦ inr (inr j) ]
set_one (c ∷ cs) (suc k) e x i =
    elim i as (λ _. (x ≡ e) ⊎ IsOneOf x (c ∷ cs)) [
      | inl q ↦ inr (inl q)
      | inr j ↦ (elim (set_one cs k e x j) as (λ _. (x ≡ e) ⊎ IsOneOf x (c ∷ cs)) [ inl q ↦ inl q | inr m ↦ inr (inr m) ])
    ]

names_set : (cs : List ClassDef) (k : ℕ) (d e : ClassDef) → slice_get cs k ≡ Some d → e.name ≡ d.name → map (λ (c : ClassDef). c.name) (slice_set cs k e) ≡ map (λ (c : ClassDef). c.name) cs
names_set [] k d e h q = absurd (cc)
names_set (c ∷ cs) zero d e h q = let r : d ≡ c = cc in ap (λ n. n ∷ map (λ (c : ClassDef). c.name) cs) (q ∙ ap (λ (c : ClassDef). c.name) r)
names_set (c ∷ cs) (suc k) d e h q = ap (λ ns. c.name ∷ ns) (names_set cs k d e h q)

-- ---- ids with those of one class replaced

pub record IdParts (cs : List ClassDef) (k : ℕ) (d : ClassDef) : Type 0 where
  pub before : List ℕ
  pub after : List ℕ
  pub was : ids_in cs ≡ before ++ (ids_of d.fields ++ after)
  pub is : (e : ClassDef) → ids_in (slice_set cs k e) ≡ before ++ (ids_of e.fields ++ after)

first_ids : (c : ClassDef) (cs : List ClassDef) → ids_in (c ∷ cs) ≡ ids_of c.fields ++ ids_in cs
first_ids c cs = map-append (λ (f : FieldDef). f.id) c.fields (flat_map (λ (c : ClassDef). c.fields) cs)

id_parts : (cs : List ClassDef) (k : ℕ) (d : ClassDef) → slice_get cs k ≡ Some d → IdParts cs k d
id_parts [] k d h = absurd (cc)
id_parts (c ∷ cs) zero d h =
    let q : c ≡ d = cc in
    record { before = []; after = ids_in cs; was = first_ids c cs ∙ ap (λ (x : ClassDef). ids_of x.fields ++ ids_in cs) q; is = λ e. first_ids e cs }
id_parts (c ∷ cs) (suc k) d h =
    let r = id_parts cs k d h in
    record {
      before = ids_of c.fields ++ r.before;
      after = r.after;
      was = first_ids c cs ∙ ap (λ ns. ids_of c.fields ++ ns) r.was ∙ sym (append_assoc (ids_of c.fields) r.before (ids_of d.fields ++ r.after));
      is = λ e. first_ids c (slice_set cs k e) ∙ ap (λ ns. ids_of c.fields ++ ns) (r.is e) ∙ sym (append_assoc (ids_of c.fields) r.before (ids_of e.fields ++ r.after));
    }

apart_replaced : (a o b n : List ℕ) (next : ℕ) → are_apart (a ++ (o ++ b)) ≡ true → are_apart n ≡ true → ((i : ℕ) → IsOneOf i n → IsOneOf i o ⊎ (next ≤ i)) → ((i : ℕ) → IsOneOf i (a ++ (o ++ b)) → i < next)
    → are_apart (a ++ (n ++ b)) ≡ true
apart_replaced a o b n next h new from drawn =
    let p = apart_parts a (o ++ b) h in
    let q = apart_parts o b p.1 in
    apart_joined a (n ++ b) p.0
    (apart_joined n b new q.1
    (λ i x y. elim (from i x) as (λ _. ⊥) [
      | inl z ↦ q.2 i z y
      | inr le ↦ let lt = drawn i (in_right i a (o ++ b) (in_right i o b y)) in omega (arith, lt, le)
    ]))
    (λ i x y. elim (in_append i n b y) as (λ _. ⊥) [
      | inl z ↦ (elim (from i z) as (λ _. ⊥) [
        | inl w ↦ p.2 i x (in_left i o b w)
        | inr le ↦ let lt = drawn i (in_left i a (o ++ b) x) in omega (arith, lt, le)
      ])
      | inr z ↦ p.2 i x (in_right i o b z)
    ])

-- ---- texts of which none comes twice

distinct_parts : (ts us : List Text) → are_distinct (ts ++ us) ≡ true → (are_distinct ts ≡ true) × (are_distinct us ≡ true) × ((t : Text) → IsOneOf t ts → list_any (same t) us ≡ false)
distinct_parts [] us h = (refl, h, λ t i. absurd i)
distinct_parts (t ∷ ts) us h =
    let r = and_parts (not (list_any (same t) (ts ++ us))) (are_distinct (ts ++ us)) h in
    let q = or_parts (list_any (same t) ts) (list_any (same t) us) (sym (list_any-append (same t) ts us) ∙ not-true _ r.0) in
    let p = distinct_parts ts us r.1 in
    (and_from _ _ (ap not q.0) p.0, p.1, λ u i. elim i as (λ _. list_any (same u) us ≡ false) [ inl e ↦ ap (λ x. list_any (same x) us) e ∙ q.1 | inr j ↦ p.2 u j ])

lengths_swapped : (b n o a : ℕ) → nat_le (b + (n + a)) 255 ≡ nat_le (b + (o + a) + n) (255 + o)
lengths_swapped b n o a = grind (arith, nat_tests)

-- a class is below no later one
sub_low : (n : ℕ) (s : Schema) (x a : ℕ) → IsEarlier s → has_earlier_parents s ≡ true → x ≤ n → 1 ≤ a → is_sub s x a ≡ true → a ≤ x
sub_low n s zero a e h le some k = absurd (true≢false (sym k ∙ sub_none s a))
sub_low zero s (suc x) a e h le some k = absurd (omega (arith, le))
sub_low (suc n) s (suc x) a e h le some k =
    elim (or_cases (suc x == a) _ (sym (sub_step s (suc x) a h (omega arith) some) ∙ k)) as (λ _. a ≤ suc x) [
      | inl q ↦ let r : suc x ≡ a = eqb-true (suc x) a q in omega (arith, r)
      | inr up ↦ let p = e x in let r = sub_low n s (parent_of (class_at s (suc x))) a e h (omega (arith, p, le)) some up in omega (arith, p, r)
    ]

-- ---- the schema with the fields of a class declared anew

-- the class with its fields declared anew
abbrev pub redeclared : Schema → ClassDef → List Decl → ClassDef
redeclared s d ds = record d { fields = declared_fields d.fields s.next_field ds }

-- and the id that the next new field gets
abbrev pub next_after : Schema → ClassDef → List Decl → ℕ
next_after s d ds = s.next_field + new_ids d.fields ds

module _ (s : Schema) (k : ℕ) (d : ClassDef) (ds : List Decl)
    (rules : keeps_rules s ≡ true) (here : slice_get s.classes k ≡ Some d)
    (proper : list_all (λ d. is_name d.name) ds ≡ true) (distinct : are_distinct (names_of ds) ≡ true)
    (free : list_any (is_taken_around s (suc k)) (names_of ds) ≡ false) where
  abbrev e : ClassDef
  e = redeclared s d ds

  abbrev t : Schema
  t = schema_of (slice_set s.classes k e) (next_after s d ds)

  abbrev stated : List FieldDef
  stated = stated_fields d.fields s.next_field ds

  abbrev own : List FieldDef
  own = current d.fields

  early : IsEarlier s
  early = is_earlier s (rules_kept s rules).parents

  earlier : has_earlier_parents s ≡ true
  earlier = (rules_kept s rules).parents

  some : 1 ≤ s.next_field
  some = let h = (and_parts (nat_le 1 s.next_field) _ (rules_kept s rules).drawn).0 in grind (arith, nat_tests, h)

  own_good : AllKeep s.next_field d.fields
  own_good f i = fields_keep_rules s rules f (to_flat_map (λ (c : ClassDef). c.fields) f d s.classes (class_is_one d k s.classes here) i)

  own_apart : are_apart (ids_of d.fields) ≡ true
  own_apart =
      let p = id_parts s.classes k d here in
      (apart_parts (ids_of d.fields) p.after (apart_parts p.before (ids_of d.fields ++ p.after) (sym (ap are_apart p.was) ∙ (rules_kept s rules).ids)).1).0

  -- ---- the parents and the own fields

  parents : (m : ℕ) → parent_of (class_at t m) ≡ parent_of (class_at s m)
  parents zero = refl
  parents (suc j) = get_kept parent_of s.classes k d e j here refl

  others : (m : ℕ) → (m ≡ suc k → ⊥) → own_fields (class_at t m) ≡ own_fields (class_at s m)
  others zero h = refl
  others (suc j) h = ap own_fields (set_other s.classes k j e (λ q. h (ap suc q)))

  now : own_fields (class_at t (suc k)) ≡ stated
  now = ap own_fields (set_here s.classes k d e here) ∙ declared_current d.fields s.next_field ds own_good own_apart some proper distinct

  before_now : own_fields (class_at s (suc k)) ≡ own
  before_now = ap own_fields here

  parent_below : (m n : ℕ) → m ≤ suc n → parent_of (class_at s m) ≤ n
  parent_below zero n le = omega arith
  parent_below (suc j) n le = let p = early j in omega (arith, p, le)

  parent_within : (m : ℕ) → m ≤ k → parent_of (class_at s m) ≤ k
  parent_within zero le = omega arith
  parent_within (suc j) le = let p = early j in omega (arith, p, le)

  -- ---- the fields

  unchanged : (n m : ℕ) → m ≤ k → fields_within n t m ≡ fields_within n s m
  unchanged zero m le = refl
  unchanged (suc n) m le =
      (λ i. fields_within n t (parents m i) ++ others m (λ q. omega (arith, q, le)) i)
      ∙ ap (λ fs. fs ++ own_fields (class_at s m)) (unchanged n (parent_of (class_at s m)) (parent_within m le))

  below_kept : (n a b : ℕ) → below_within n t a b ≡ below_within n s a b
  below_kept zero a b = refl
  below_kept (suc n) a b = ap (λ p. a == b || below_within n t p b) (parents a) ∙ ap (λ r. a == b || r) (below_kept n (parent_of (class_at s a)) b)

  -- a field that a class around has
  record IsNear (y : FieldDef) : Type 0 where
    at : ℕ
    class : ClassDef
    there : class_at s at ≡ Some class
    among : IsOneOf y (current class.fields)
    related : (is_above s at (suc k) || is_above s (suc k) at) ≡ true

  -- the fields of a class below: those above, the class's own, and those between
  record Split (n m : ℕ) : Type 0 where
    before : List FieldDef
    after : List FieldDef
    was : fields_within n s m ≡ before ++ (own ++ after)
    is : fields_within n t m ≡ before ++ (stated ++ after)
    sub : is_sub s m (suc k) ≡ true
    near : (y : FieldDef) → IsOneOf y before ⊎ IsOneOf y after → IsNear y

  above_near : (y : FieldDef) → IsOneOf y (fields_of s (parent_of (class_at s (suc k)))) → IsNear y
  above_near y i =
      let p = parent_of (class_at s (suc k)) in
      let r = declares s p y i in
      let up = early k in
      let first = first_class s r.at r.class r.there in
      let low = sub_low p s p r.at early earlier (omega arith) first r.above in
      record {
        at = r.at;
        class = r.class;
        there = r.there;
        among = r.own;
        related = ap (λ b. b || is_above s (suc k) r.at)
            (and_from _ _ (ap not (ne_eqb r.at (suc k) (λ q. omega (arith, q, low, up)))) (sub_step s (suc k) r.at earlier (omega arith) first ∙ or_right (suc k == r.at) _ r.above));
      }

  split_here : (n : ℕ) → suc k ≤ suc n → Split (suc n) (suc k)
  unfolding fields_of
  split_here n le =
      let p = parent_of (class_at s (suc k)) in
      let up = early k in
      record {
        before = fields_within n s p;
        after = [];
        was = ap (λ fs. fields_within n s p ++ fs) (before_now ∙ sym (append-nil own));
        is = (λ i. fields_within n t (parents (suc k) i) ++ now i) ∙ (λ i. unchanged n p (parent_of_here) i ++ sym (append-nil stated) i);
        sub = sub_self s (suc k) (omega arith);
        near = λ y i. elim i as (λ _. IsNear y) [
          | inl a ↦ above_near y (subst (IsOneOf y) (fields_same n p p s early (omega (arith, up, le)) (omega arith)) a)
          | inr b ↦ absurd b
        ];
      }
    where
      parent_of_here : parent_of (class_at s (suc k)) ≤ k
      parent_of_here = early k

  split_below : (n m : ℕ) → 1 ≤ m → (m ≡ suc k → ⊥) → Split n (parent_of (class_at s m)) → Split (suc n) m
  split_below n m pos other r =
      let mine = own_fields (class_at s m) in
      let sub = sub_step s m (suc k) earlier pos (omega arith) ∙ or_right (m == suc k) _ r.sub in
      record {
        before = r.before;
        after = r.after ++ mine;
        was = ap (λ fs. fs ++ mine) r.was ∙ append_assoc r.before (own ++ r.after) mine ∙ ap (λ fs. r.before ++ fs) (append_assoc own r.after mine);
        is =
            (λ i. fields_within n t (parents m i) ++ others m other i)
            ∙ ap (λ fs. fs ++ mine) r.is ∙ append_assoc r.before (stated ++ r.after) mine ∙ ap (λ fs. r.before ++ fs) (append_assoc stated r.after mine);
        sub = sub;
        near = λ y i. elim i as (λ _. IsNear y) [
          | inl a ↦ r.near y (inl a)
          | inr b ↦ (elim (in_append y r.after mine b) as (λ _. IsNear y) [
            | inl c ↦ r.near y (inr c)
            | inr c ↦
                let o = own_is_one y (class_at s m) c in
                record {
                  at = m;
                  class = o.0;
                  there = o.1;
                  among = o.2;
                  related = or_right (is_above s m (suc k)) _ (and_from _ _ (ap not (ne_eqb (suc k) m (λ q. other (sym q)))) sub);
                }
          ])
        ];
      }

  IsApart : ℕ → ℕ → Type 0
  IsApart n m = (is_sub s m (suc k) ≡ false) × (fields_within n t m ≡ fields_within n s m)

  split : (n m : ℕ) → m ≤ n → Split n m ⊎ IsApart n m
  unfolding IsApart
  split zero m le = let z : m ≡ 0 = omega (arith, le) in inr (ap (λ x. is_sub s x (suc k)) z ∙ sub_none s (suc k), refl)
  split (suc n) zero le = inr (sub_none s (suc k), unchanged (suc n) zero (omega arith))
  split (suc n) (suc i) le =
      elim (cases_eq (suc i) (suc k)) as (λ _. Split (suc n) (suc i) ⊎ IsApart (suc n) (suc i)) [
        | inl q ↦ inl (subst (Split (suc n)) (sym q) (split_here n (omega (arith, q, le))))
        | inr other ↦
            let up = parent_below (suc i) n le in
            let p = parent_of (class_at s (suc i)) in
            (elim (split n p up) as (λ _. Split (suc n) (suc i) ⊎ IsApart (suc n) (suc i)) [
              | inl r ↦ inl (split_below n (suc i) (omega arith) other r)
              | inr r ↦ inr (
                sub_step s (suc i) (suc k) earlier (omega arith) (omega arith) ∙ (λ j. ne_eqb (suc i) (suc k) other j || r.0 j),
                (λ j. fields_within n t (parents (suc i) j) ++ others (suc i) other j) ∙ ap (λ fs. fs ++ own_fields (class_at s (suc i))) r.1,
              )
            ])
      ]

  -- ---- the names

  near_free : (y : FieldDef) → IsNear y → (n : Text) → IsOneOf n (names_of ds) → same y.name n ≡ false
  near_free y r n i =
      is_false (same y.name n)
      (λ h. true≢false
      (sym (any_passes (λ (x : ℕ × ClassDef). (is_above s x.0 (suc k) || is_above s (suc k) x.0) && list_any (is_called n) (current (x.1).fields)) (r.at, r.class) (numbered s) (class_numbered s r.at r.class r.there)
      (and_from _ _ r.related (any_passes (is_called n) y (current r.class.fields) r.among h)))
      ∙ none_of (is_taken_around s (suc k)) n (names_of ds) free i))

  names : List FieldDef → List Text
  names fs = map (λ (f : FieldDef). f.name) fs

  joined_names : (a b c : List FieldDef) → names (a ++ (b ++ c)) ≡ names a ++ (names b ++ names c)
  unfolding names
  joined_names a b c = map-append (λ (f : FieldDef). f.name) a (b ++ c) ∙ ap (λ ns. map (λ (f : FieldDef). f.name) a ++ ns) (map-append (λ (f : FieldDef). f.name) b c)

  stated_names : names stated ≡ names_of ds
  unfolding names
  stated_names = names_stated d.fields s.next_field ds

  split_names : (n m : ℕ) → (r : Split n m) → are_distinct (names (fields_within n s m)) ≡ true → are_distinct (names (fields_within n t m)) ≡ true
  unfolding names
  split_names n m r h =
      let b = names r.before in
      let o = names own in
      let a = names r.after in
      let st = names stated in
      let p = distinct_parts b (o ++ a) (sym (ap (λ fs. are_distinct (names fs)) r.was ∙ ap are_distinct (joined_names r.before own r.after)) ∙ h) in
      let q = distinct_parts o a p.1 in
      ap (λ fs. are_distinct (names fs)) r.is
      ∙ ap are_distinct (joined_names r.before stated r.after)
      ∙ distinct_joined b (st ++ a) p.0
      (distinct_joined st a (ap are_distinct stated_names ∙ distinct) q.1
      (λ x i.
      let i' = subst (IsOneOf x) stated_names i in
      any_none (same x) a (λ y j. let w = from_map (λ (f : FieldDef). f.name) y r.after j in ap (same x) w.2 ∙ nat_list_eq_equiv.symm x w.0.name ∙ near_free w.0 (r.near w.0 (inr w.1)) x i')))
      (λ x i.
      let w = from_map (λ (f : FieldDef). f.name) x r.before i in
      list_any-append (same x) st a
      ∙ (λ j.
      (ap (list_any (same x)) stated_names ∙ any_none (same x) (names_of ds) (λ y l. ap (λ u. same u y) w.2 ∙ near_free w.0 (r.near w.0 (inl w.1)) y l)) j
      || (or_parts (list_any (same x) o) (list_any (same x) a) (sym (list_any-append (same x) o a) ∙ p.2 x i)).1 j))

  line : (m : ℕ) → m ≤ length s.classes → are_distinct (map (λ f. f.name) (fields_of t m)) ≡ true
  unfolding names fields_of IsApart
  line m le =
      let old = names_in_class s m rules le in
      elim (split m m (omega arith)) as (λ _. are_distinct (map (λ f. f.name) (fields_within m t m)) ≡ true) [
        | inl r ↦ split_names m m r old
        | inr r ↦ ap (λ fs. are_distinct (map (λ f. f.name) fs)) r.1 ∙ old
      ]

  field_names : has_distinct_names t ≡ true
  field_names =
      let f : ℕ → Bool = λ m. are_distinct (map (λ f. f.name) (fields_of t m)) in
      numbers_kept f 1 s.classes k e
      ∙ all_kept (λ x. f x.0) (λ x. are_distinct (map (λ f. f.name) (fields_of s x.0))) 1 s.classes (λ m c lo hi. line m (omega (arith, hi)) ∙ sym (names_in_class s m rules (omega (arith, hi))))
      ∙ (rules_kept s rules).field_names

  -- ---- the limits

  fits : (m : ℕ) → m ≤ length s.classes → nat_le (length (fields_of t m)) 255 ≡ fits_below s (suc k) (length ds) m
  unfolding fields_of IsApart
  fits m le =
      let few = few_fields s m rules le in
      let o = length (own_fields (class_at s (suc k))) in
      elim (split m m (omega arith)) as (λ _. nat_le (length (fields_within m t m)) 255 ≡ fits_below s (suc k) (length ds) m) [
        | inl r ↦
            let b = length r.before in
            let a = length r.after in
            let was : length (fields_within m s m) ≡ b + (length own + a) =
            ap (λ (fs : List FieldDef). length fs) r.was ∙ length-append r.before (own ++ r.after) ∙ ap (λ n. b + n) (length-append own r.after) in
            let is : length (fields_within m t m) ≡ b + (length ds + a) =
            ap (λ (fs : List FieldDef). length fs) r.is ∙ length-append r.before (stated ++ r.after) ∙ ap (λ n. b + n) (length-append stated r.after ∙ ap (λ n. n + a) (length_stated d.fields s.next_field ds)) in
            ap (λ n. nat_le n 255) is
            ∙ lengths_swapped b (length ds) (length own) a
            ∙ (λ i. not (sym r.sub i) || nat_le (sym was i + length ds) (255 + length (sym before_now i)))
        | inr r ↦ ap (λ (fs : List FieldDef). nat_le (length fs) 255) r.1 ∙ all_right (length (fields_within m s m)) few ∙ ap (λ b. not b || nat_le (length (fields_within m s m) + length ds) (255 + o)) (sym r.0)
      ]
    where
      all_right : (n : ℕ) → n ≤ 255 → nat_le n 255 ≡ true
      all_right n h = grind (arith, nat_tests, h)

  few_ancestors : list_all (λ x. nat_le (length (ancestors t x.0)) 32) (numbered t) ≡ true
  unfolding is_sub
  few_ancestors =
      let same_count : (c : ℕ) → length (ancestors t c) ≡ length (ancestors s c) =
      λ c.
      counted (λ m. is_above t m c) 1 s.classes k e
      ∙ ap (λ (f : ℕ → Bool). length (filter (λ (x : ℕ × ClassDef). f x.0) (enumerate_from 1 s.classes))) (λ j m. not (m == c) && below_kept c c m j) in
      numbers_kept (λ c. nat_le (length (ancestors t c)) 32) 1 s.classes k e
      ∙ ap (λ (f : ℕ → Bool). list_all (λ x. f x.0) (enumerate_from 1 s.classes)) (λ j c. nat_le (same_count c j) 32)
      ∙ (limits_kept s (rules_kept s rules).within).ancestors

  few_below : list_all (λ x. nat_le (length (fields_of t x.0)) 255) (numbered t) ≡ all_fit_below s (suc k) (length ds)
  few_below =
      numbers_kept (λ m. nat_le (length (fields_of t m)) 255) 1 s.classes k e
      ∙ all_kept (λ x. nat_le (length (fields_of t x.0)) 255) (λ x. fits_below s (suc k) (length ds) x.0) 1 s.classes (λ m c lo hi. fits m (omega (arith, hi)))

  pub limits_asked : is_within_limits t ≡ (all_fit_below s (suc k) (length ds) && nat_le (length (declared_fields d.fields s.next_field ds)) 1000 && nat_le (next_after s d ds) 4294967295)
  unfolding is_within_limits
  limits_asked =
      let l = limits_kept s (rules_kept s rules).within in
      λ i.
      (ap (λ n. nat_le n 65535) (length_kept s.classes k e) ∙ l.classes) i && few_ancestors i && few_below i
      && all_set (λ (c : ClassDef). nat_le (length c.fields) 1000) s.classes k d e here l.own_fields i
      && nat_le (next_after s d ds) 4294967295

  -- ---- the rules

  ids_drawn : (n : ℕ) → IsOneOf n (ids_in s.classes) → n < s.next_field
  ids_drawn n i = let r = from_map (λ (f : FieldDef). f.id) n (all_fields s) i in let lt = id_drawn s.next_field r.0 (fields_keep_rules s rules r.0 r.1) in let q = r.2 in omega (arith, lt, q)

  all_good : AllKeep (next_after s d ds) (all_fields t)
  all_good f i =
      let r = from_flat_map (λ (c : ClassDef). c.fields) f (slice_set s.classes k e) i in
      elim (set_one s.classes k e r.0 r.1) as (λ _. field_keeps (next_after s d ds) f ≡ true) [
        | inl q ↦ declared_keep d.fields s.next_field ds own_good own_apart some proper distinct f (subst (λ (c : ClassDef). IsOneOf f c.fields) q r.2)
        | inr j ↦ keeps_later s.next_field (next_after s d ds) f (omega arith) (fields_keep_rules s rules f (to_flat_map (λ (c : ClassDef). c.fields) f r.0 s.classes j r.2))
      ]

  parts : is_within_limits t ≡ true → Parts t
  parts within =
      let r = rules_kept s rules in
      let one = class_is_one d k s.classes here in
      let names = (and_parts (list_all (λ (c : ClassDef). is_name c.name) s.classes) _ r.names).0 in
      let p = id_parts s.classes k d here in
      record {
        class_names = all_set (λ (c : ClassDef). is_name c.name) s.classes k d e here names ∙ all_pass (λ (c : ClassDef). is_name c.name) d s.classes names one;
        classes = ap are_distinct (names_set s.classes k d e here refl) ∙ r.classes;
        parents = all_numbers_kept (λ (x : ℕ × ClassDef). nat_lt (x.1).parent x.0) 1 s.classes k d e here (λ m q. q) r.parents;
        field_names = field_names;
        ids =
            ap are_apart (p.is e)
            ∙ apart_replaced p.before (ids_of d.fields) p.after (ids_of e.fields) s.next_field (sym (ap are_apart p.was) ∙ r.ids)
            (declared_apart d.fields s.next_field ds own_good own_apart some proper distinct) (declared_ids d.fields s.next_field ds own_good own_apart some proper distinct)
            (λ n i. ids_drawn n (subst (IsOneOf n) (sym p.was) i));
        some = more_ids s.next_field (new_ids d.fields ds) (and_parts (nat_le 1 s.next_field) _ r.drawn).0;
        fields = all_good;
        order = all_set (λ (c : ClassDef). are_in_order c.fields) s.classes k d e here r.order ∙ declared_in_order d.fields s.next_field ds own_good own_apart some proper distinct;
        within = within;
      }

  pub redeclared_keeps : is_within_limits t ≡ true → keeps_rules t ≡ true
  redeclared_keeps within = parts_keep t (parts within)
