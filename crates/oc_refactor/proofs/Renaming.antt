-- A class with another name: all rules but those on names are as they were.
use Rattle.std.proofs.Common.{◌≡◌, refl, sym, ap, ◌∙◌, ℕ, zero, suc, ◌+◌, ◌-◌, ◌≤◌, Bool, true, false, not, ◌&&◌, ◌||◌, ◌==◌, nat_lt, nat_le, List, [], ◌∷◌, ◌++◌, length, map, filter, flat_map, slice_get, slice_set, Option, Some, None, is_some, cond, true≢false}
use Rattle.std.specs.List.{list_all, list_any, enumerate_from}
use Rattle.std.proofs.lemmas.Bool.{and_parts, or_parts, not-true}
use Rattle.std.specs.Cmp.Lexicographic.{nat_list_eq_equiv}
use Rattle.oc_model.specs.declared.schema.ClassDef.{ClassDef}
use Rattle.oc_model.specs.Maps.{Text, same, are_distinct}
use Rattle.oc_model.specs.Schemas.{Schema, class_at, class_named, number_from, parent_of, own_fields, fields_within, below_within, fields_of, is_sub}
use Rattle.oc_model.specs.SchemaRules.{is_name, is_above, ancestors, has_distinct_classes, are_apart, keeps_rules}
use Rattle.oc_schema.specs.ClassRules.{fields_keep, class_keeps}
use Rattle.oc_schema.specs.Drafts.{schema_of, line_keeps, lines_keep, own_rules_keep}
use Rattle.oc_schema.proofs.Parting.{parted}
use Rattle.oc_refactor.proofs.OneClass.{at_number, changed}
use Rattle.std.specs.Prelude.{Ok}
use Rattle.oc_model.specs.SchemaSteps.{class_renamed}

-- the same class under another name
abbrev pub renamed : ClassDef → Text → ClassDef
renamed d to = record { name = to; parent = d.parent; fields = d.fields }

-- ---- lists with one element replaced

pub length_kept : {X : Type 0} (xs : List X) (i : ℕ) (x : X) → length (slice_set xs i x) ≡ length xs
length_kept [] i x = refl
length_kept (y ∷ xs) zero x = refl
length_kept (y ∷ xs) (suc i) x = ap suc (length_kept xs i x)

-- what is said of the class is said of the other in its place
pub get_kept : {Y : Type 0} (f : Option ClassDef → Y) (cs : List ClassDef) (i : ℕ) (d e : ClassDef) (j : ℕ) → slice_get cs i ≡ Some d → f (Some e) ≡ f (Some d) → f (slice_get (slice_set cs i e) j) ≡ f (slice_get cs j)
get_kept f [] i d e j h k = absurd (cc)
get_kept f (c ∷ cs) zero d e zero h k = k ∙ ap f (sym h)
get_kept f (c ∷ cs) zero d e (suc j) h k = refl
get_kept f (c ∷ cs) (suc i) d e zero h k = refl
get_kept f (c ∷ cs) (suc i) d e (suc j) h k = get_kept f cs i d e j h k

flat_kept : {Y : Type 0} (f : ClassDef → List Y) (cs : List ClassDef) (i : ℕ) (d e : ClassDef) → slice_get cs i ≡ Some d → f e ≡ f d → flat_map f (slice_set cs i e) ≡ flat_map f cs
flat_kept f [] i d e h k = absurd (cc)
flat_kept f (c ∷ cs) zero d e h k = let q : c ≡ d = cc in ap (λ ys. ys ++ flat_map f cs) (k ∙ ap f (sym q))
flat_kept f (c ∷ cs) (suc i) d e h k = ap (λ ys. f c ++ ys) (flat_kept f cs i d e h k)

pub all_kept : (p : ℕ × ClassDef → Bool) (n : ℕ) (cs : List ClassDef) (i : ℕ) (d e : ClassDef) → slice_get cs i ≡ Some d → ((m : ℕ) → p (m, d) ≡ true → p (m, e) ≡ true)
    → list_all p (enumerate_from n cs) ≡ true → list_all p (enumerate_from n (slice_set cs i e)) ≡ true
all_kept p n [] i d e h k all = absurd (cc)
all_kept p n (c ∷ cs) zero d e h k all =
    let q : c ≡ d = cc in
    let r = and_parts (p (n, c)) (list_all p (enumerate_from (n + 1) cs)) all in
    ap (λ b. b && list_all p (enumerate_from (n + 1) cs)) (k n (ap (λ x. p (n, x)) (sym q) ∙ r.0)) ∙ r.1
all_kept p n (c ∷ cs) (suc i) d e h k all =
    let r = and_parts (p (n, c)) (list_all p (enumerate_from (n + 1) cs)) all in
    ap (λ b. b && list_all p (enumerate_from (n + 1) (slice_set cs i e))) r.0 ∙ all_kept p (n + 1) cs i d e h k r.1

-- tests of numbers alone say the same
pub numbers_kept : (f : ℕ → Bool) (n : ℕ) (cs : List ClassDef) (i : ℕ) (e : ClassDef) → list_all (λ x. f x.0) (enumerate_from n (slice_set cs i e)) ≡ list_all (λ x. f x.0) (enumerate_from n cs)
numbers_kept f n [] i e = refl
numbers_kept f n (c ∷ cs) zero e = refl
numbers_kept f n (c ∷ cs) (suc i) e = ap (λ b. f n && b) (numbers_kept f (n + 1) cs i e)

pub counted : (f : ℕ → Bool) (n : ℕ) (cs : List ClassDef) (i : ℕ) (e : ClassDef)
    → length (filter (λ (x : ℕ × ClassDef). f x.0) (enumerate_from n (slice_set cs i e))) ≡ length (filter (λ (x : ℕ × ClassDef). f x.0) (enumerate_from n cs))
counted f n [] i e = refl
counted f n (c ∷ cs) zero e =
    let rest = filter (λ (x : ℕ × ClassDef). f x.0) (enumerate_from (n + 1) cs) in
    elim (f n) as (λ b. length (cond b ((n, e) ∷ rest) rest) ≡ length (cond b ((n, c) ∷ rest) rest)) [ true ↦ refl | false ↦ refl ]
counted f n (c ∷ cs) (suc i) e =
    let new = filter (λ (x : ℕ × ClassDef). f x.0) (enumerate_from (n + 1) (slice_set cs i e)) in
    let old = filter (λ (x : ℕ × ClassDef). f x.0) (enumerate_from (n + 1) cs) in
    elim (f n) as (λ b. length (cond b ((n, c) ∷ new) new) ≡ length (cond b ((n, c) ∷ old) old)) [ true ↦ ap suc (counted f (n + 1) cs i e) | false ↦ counted f (n + 1) cs i e ]

-- ---- names

pub none_named : (n : ℕ) (cs : List ClassDef) (to : Text) → number_from n cs to ≡ None → list_any (same to) (map (λ c. c.name) cs) ≡ false
none_named n [] to h = refl
none_named n (c ∷ cs) to h =
    (elim (same c.name to) as (λ b. same c.name to ≡ b → cond b (Some n) (number_from (n + 1) cs to) ≡ None → (same to c.name || list_any (same to) (map (λ c. c.name) cs)) ≡ false) [
      | true ↦ λ q k. absurd (cc)
      | false ↦ λ q k. ap (λ b. b || list_any (same to) (map (λ c. c.name) cs)) (nat_list_eq_equiv.symm to c.name ∙ q) ∙ none_named (n + 1) cs to k
    ]) refl h

not_first : (n : ℕ) (c : ClassDef) (cs : List ClassDef) (to : Text) → number_from n (c ∷ cs) to ≡ None → (same c.name to ≡ false) × (number_from (n + 1) cs to ≡ None)
not_first n c cs to h =
    (elim (same c.name to) as (λ b. cond b (Some n) (number_from (n + 1) cs to) ≡ None → (b ≡ false) × (number_from (n + 1) cs to ≡ None)) [
      | true ↦ λ k. absurd (cc)
      | false ↦ λ k. (refl, k)
    ]) h

any_free : (a : Text) (cs : List ClassDef) (i : ℕ) (e : ClassDef) → list_any (same a) (map (λ c. c.name) cs) ≡ false → same a e.name ≡ false → list_any (same a) (map (λ c. c.name) (slice_set cs i e)) ≡ false
any_free a [] i e h k = refl
any_free a (c ∷ cs) zero e h k = let r = or_parts (same a c.name) (list_any (same a) (map (λ c. c.name) cs)) h in ap (λ b. b || list_any (same a) (map (λ c. c.name) cs)) k ∙ r.1
any_free a (c ∷ cs) (suc i) e h k =
    let r = or_parts (same a c.name) (list_any (same a) (map (λ c. c.name) cs)) h in
    ap (λ b. b || list_any (same a) (map (λ c. c.name) (slice_set cs i e))) r.0 ∙ any_free a cs i e r.1 k

names_kept : (n : ℕ) (cs : List ClassDef) (i : ℕ) (d : ClassDef) (to : Text) → number_from n cs to ≡ None → are_distinct (map (λ c. c.name) cs) ≡ true
    → are_distinct (map (λ c. c.name) (slice_set cs i (renamed d to))) ≡ true
names_kept n [] i d to h k = refl
names_kept n (c ∷ cs) zero d to h k =
    let r = and_parts (not (list_any (same c.name) (map (λ c. c.name) cs))) (are_distinct (map (λ c. c.name) cs)) k in
    ap (λ b. not b && are_distinct (map (λ c. c.name) cs)) (none_named (n + 1) cs to (not_first n c cs to h).1) ∙ r.1
names_kept n (c ∷ cs) (suc i) d to h k =
    let r = and_parts (not (list_any (same c.name) (map (λ c. c.name) cs))) (are_distinct (map (λ c. c.name) cs)) k in
    let f = not_first n c cs to h in
    ap (λ b. not b && are_distinct (map (λ c. c.name) (slice_set cs i (renamed d to)))) (any_free c.name cs i (renamed d to) (not-true _ r.0) f.0) ∙ names_kept (n + 1) cs i d to f.1 r.1

-- ---- the rules

module _ (s : Schema) (i : ℕ) (d : ClassDef) (to : Text) (h : slice_get s.classes i ≡ Some d) where
  abbrev pub renamed_schema : Schema
  renamed_schema = schema_of (slice_set s.classes i (renamed d to)) s.next_field

  parents_kept : (c : ℕ) → parent_of (class_at renamed_schema c) ≡ parent_of (class_at s c)
  parents_kept zero = refl
  parents_kept (suc j) = get_kept parent_of s.classes i d (renamed d to) j h refl

  own_kept : (c : ℕ) → own_fields (class_at renamed_schema c) ≡ own_fields (class_at s c)
  own_kept zero = refl
  own_kept (suc j) = get_kept own_fields s.classes i d (renamed d to) j h refl

  fields_kept : (n c : ℕ) → fields_within n renamed_schema c ≡ fields_within n s c
  fields_kept zero c = refl
  fields_kept (suc n) c = (λ j. fields_within n renamed_schema (parents_kept c j) ++ own_kept c j) ∙ ap (λ fs. fs ++ own_fields (class_at s c)) (fields_kept n (parent_of (class_at s c)))

  below_kept : (n a b : ℕ) → below_within n renamed_schema a b ≡ below_within n s a b
  below_kept zero a b = refl
  below_kept (suc n) a b = ap (λ p. a == b || below_within n renamed_schema p b) (parents_kept a) ∙ ap (λ r. a == b || r) (below_kept n (parent_of (class_at s a)) b)

  ancestors_kept : (c : ℕ) → length (ancestors renamed_schema c) ≡ length (ancestors s c)
  unfolding is_sub
  ancestors_kept c =
      counted (λ m. is_above renamed_schema m c) 1 s.classes i (renamed d to)
      ∙ ap (λ (f : ℕ → Bool). length (filter (λ (x : ℕ × ClassDef). f x.0) (enumerate_from 1 s.classes))) (λ j m. not (m == c) && below_kept c c m j)

  line_kept : (c : ℕ) → line_keeps renamed_schema c ≡ line_keeps s c
  unfolding fields_of
  line_kept c = λ j. nat_le (ancestors_kept c j) 32 && nat_le (length (fields_kept c c j)) 255 && are_distinct (map (λ f. f.name) (fields_kept c c j))

  lines_kept : lines_keep renamed_schema ≡ lines_keep s
  lines_kept = numbers_kept (line_keeps renamed_schema) 1 s.classes i (renamed d to) ∙ ap (λ (f : ℕ → Bool). list_all (λ x. f x.0) (enumerate_from 1 s.classes)) (λ j c. line_kept c j)

  own_rules_kept : is_name to ≡ true → own_rules_keep s.classes s.next_field ≡ true → own_rules_keep (slice_set s.classes i (renamed d to)) s.next_field ≡ true
  own_rules_kept named k =
      let cs = s.classes in
      let k1 = and_parts _ (are_apart (map (λ f. f.id) (flat_map (λ (c : ClassDef). c.fields) cs))) k in
      let k2 = and_parts _ (list_all (class_keeps s.next_field) (enumerate_from 1 cs)) k1.0 in
      let k3 = and_parts (nat_le (length cs) 65535) (nat_le 1 s.next_field) k2.0 in
      let kept : (m : ℕ) → class_keeps s.next_field (m, d) ≡ true → class_keeps s.next_field (m, renamed d to) ≡ true =
      λ m q.
      let q1 = and_parts _ (fields_keep s.next_field d.fields) q in
      let q2 = and_parts (is_name d.name) (nat_lt d.parent m) q1.0 in
      rw (named, q2.1, q1.1) refl in
      (λ j.
      nat_le (length_kept cs i (renamed d to) j) 65535 && nat_le 1 s.next_field && all_kept (class_keeps s.next_field) 1 cs i d (renamed d to) h kept k2.1 j
      && are_apart (map (λ f. f.id) (flat_kept (λ (c : ClassDef). c.fields) cs i d (renamed d to) h refl j)))
      ∙ rw (k3.0, k3.1, k1.1) refl

  pub rename_keeps : keeps_rules s ≡ true → s.next_field ≤ 4294967295 → is_name to ≡ true → class_named s to ≡ None → keeps_rules renamed_schema ≡ true
  rename_keeps k few named free =
      let parts = sym (parted s.classes s.next_field few) ∙ k in
      let p1 = and_parts _ (has_distinct_classes s) parts in
      let p2 = and_parts (own_rules_keep s.classes s.next_field) (lines_keep s) p1.0 in
      parted (slice_set s.classes i (renamed d to)) s.next_field few
      ∙ (λ j. own_rules_kept named p2.0 j && (lines_kept ∙ p2.1) j && names_kept 1 s.classes i d to free p1.1 j)

pub nothing : {X : Type 0} (o : Option X) → is_some o ≡ false → o ≡ None
nothing None h = refl
nothing (Some x) h = absurd (true≢false h)

pub renamed_keeps : (s : Schema) (c : ℕ) (d : ClassDef) (to : Text) → class_at s c ≡ Some d → keeps_rules s ≡ true → s.next_field ≤ 4294967295 → is_name to ≡ true → is_some (class_named s to) ≡ false
    → keeps_rules (schema_of (slice_set s.classes (c - 1) (renamed d to)) s.next_field) ≡ true
renamed_keeps s c d to h k few named free = rename_keeps s (c - 1) d to (at_number s c d h) k few named (nothing _ free)

pub renamed_told : (s : Schema) (name to : Text) (c : ℕ) (d : ClassDef) → class_named s name ≡ Some c → is_some (class_named s to) ≡ false → class_at s c ≡ Some d
    → class_renamed s name to ≡ Ok (schema_of (slice_set s.classes (c - 1) (renamed d to)) s.next_field)
unfolding class_renamed
renamed_told s name to c d h free l = rw (h, nothing _ free, changed s c (λ e. renamed e to) d l) refl
