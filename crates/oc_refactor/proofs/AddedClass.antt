-- With a new class the rules hold where the limits do.
use Rattle.std.proofs.Common.{◌≡◌, refl, sym, ap, ◌∙◌, subst, ℕ, zero, suc, ◌+◌, ◌≤◌, inl, inr, Bool, true, false, not, ◌&&◌, ◌||◌, nat_lt, nat_le, List, [], ◌∷◌, ◌++◌, length, map, filter, find, Some, None, is_some, cond, arith, true≢false, append-nil}
use Rattle.std.specs.Prelude.{Ok, Err}
use Rattle.std.specs.List.{list_all, list_any, enumerate_from}
use Rattle.std.proofs.lemmas.Bool.{and_parts, and_from, not-true, or_parts}
use Rattle.std.proofs.lemmas.Bool.Decides.{nat_tests}
use Rattle.std.proofs.lemmas.List.{map-append}
use Rattle.std.proofs.lemmas.List.Folds.{list_all-append, list_any-append}
use Rattle.std.proofs.lemmas.Grind.{flat_map-append}
use Rattle.std.specs.Cmp.Lexicographic.{nat_list_eq_equiv}
use Rattle.oc_model.specs.declared.command.Decl.{Decl}
use Rattle.oc_model.specs.declared.schema.FieldDef.{FieldDef}
use Rattle.oc_model.specs.declared.schema.ClassDef.{ClassDef}
use Rattle.oc_model.specs.Lists.{IsOneOf}
use Rattle.oc_model.specs.Maps.{Text, same, are_distinct}
use Rattle.oc_model.specs.Schemas.{Schema, class_named, current, parent_of, fields_of, field_named}
use Rattle.oc_model.specs.SchemaRules.{is_name, all_fields, are_apart, are_in_order, has_earlier_parents, has_distinct_names, ancestors, is_within_limits, keeps_rules}
use Rattle.oc_model.specs.SchemaSteps.{stated_fields, declared_fields, is_new, with_new_class, declared_new, names_of, stored_fields}
use Rattle.oc_model.proofs.Elements.{in_append, from_map}
use Rattle.oc_model.proofs.NewChild.{new_child_limits}
use Rattle.oc_model.proofs.NewClass.{IsEarlier, is_earlier, grown, at_the_end, enumerated, all_kept, fields_of_old}
use Rattle.oc_model.proofs.Rules.{rules_kept}
use Rattle.oc_schema.proofs.Ancestry.{fields_pushed}
use Rattle.oc_refactor.proofs.Apart.{apart_joined}
use Rattle.oc_refactor.proofs.DeclaredFields.{ids_of, new_ids, keeps_later, id_drawn, names_stated, declared_current, declared_in_order, declared_keep, declared_apart, declared_ids}
use Rattle.oc_refactor.proofs.KeepsRules.{AllKeep, Parts, parts_keep, fields_keep_rules}
use Rattle.oc_refactor.proofs.Renaming.{none_named as named_by_none}
use Rattle.oc_refactor.proofs.Counting.{at_class}
use Rattle.oc_schema.specs.ClassRules.{field_keeps}
use Rattle.oc_schema.specs.Drafts.{schema_of}
use Rattle.oc_model.specs.declared.answer.Word.TheVariants as word

-- ---- texts of which none comes twice

pub distinct_joined : (ts us : List Text) → are_distinct ts ≡ true → are_distinct us ≡ true → ((t : Text) → IsOneOf t ts → list_any (same t) us ≡ false) → are_distinct (ts ++ us) ≡ true
distinct_joined [] us h k d = k
distinct_joined (t ∷ ts) us h k d =
    let r = and_parts (not (list_any (same t) ts)) (are_distinct ts) h in
    and_from _ _ (ap not (list_any-append (same t) ts us ∙ (λ i. not-true _ r.0 i || d t (inl refl) i))) (distinct_joined ts us r.1 k (λ u j. d u (inr j)))

-- every field of a new class is new
new_count : (ds : List Decl) → new_ids [] ds ≡ length ds
new_count [] = refl
new_count (d ∷ ds) = ap suc (new_count ds)

pub none_of : {X : Type 0} (p : X → Bool) (x : X) (xs : List X) → list_any p xs ≡ false → IsOneOf x xs → p x ≡ false
none_of p x [] h i = absurd i
none_of p x (y ∷ xs) h i =
    let r = or_parts (p y) (list_any p xs) h in
    elim i as (λ _. p x ≡ false) [ inl q ↦ ap p q ∙ r.0 | inr j ↦ none_of p x xs r.1 j ]

pub any_none : {X : Type 0} (p : X → Bool) (xs : List X) → ((x : X) → IsOneOf x xs → p x ≡ false) → list_any p xs ≡ false
any_none p [] h = refl
any_none p (x ∷ xs) h = λ i. h x (inl refl) i || any_none p xs (λ y j. h y (inr j)) i

found_none : {X : Type 0} (p : X → Bool) (x : X) (xs : List X) → is_some (find p xs) ≡ false → IsOneOf x xs → p x ≡ false
found_none p x [] h i = absurd i
found_none p x (y ∷ xs) h i =
    (elim (p y) as (λ b. p y ≡ b → is_some (cond b (Some y) (find p xs)) ≡ false → p x ≡ false) [
      | true ↦ λ e h. absurd (true≢false h)
      | false ↦ λ e h. elim i as (λ _. p x ≡ false) [ inl q ↦ ap p q ∙ e | inr j ↦ found_none p x xs h j ]
    ]) refl h

-- names that none of the fields has
pub names_apart : (fs : List FieldDef) (ns : List Text) → ((n : Text) → IsOneOf n ns → is_some (find (λ f. same f.name n) fs) ≡ false) → (t : Text) → IsOneOf t (map (λ f. f.name) fs) → list_any (same t) ns ≡ false
names_apart fs ns h t i =
    let r = from_map (λ (f : FieldDef). f.name) t fs i in
    any_none (same t) ns (λ n j. ap (λ u. same u n) r.2 ∙ found_none (λ (f : FieldDef). same f.name n) r.0 fs (h n j) r.1)

-- no two fields of a class have one name
pub names_in_class : (s : Schema) (c : ℕ) → keeps_rules s ≡ true → c ≤ length s.classes → are_distinct (map (λ f. f.name) (fields_of s c)) ≡ true
unfolding fields_of
names_in_class s zero h k = refl
names_in_class s (suc i) h k =
    let e : suc i ≡ 1 + i = omega arith in
    ap (λ c. are_distinct (map (λ f. f.name) (fields_of s c))) e ∙ at_class (λ c. are_distinct (map (λ f. f.name) (fields_of s c))) 1 s.classes i (omega (arith, k)) (rules_kept s h).field_names

pub more_ids : (n m : ℕ) → nat_le 1 n ≡ true → nat_le 1 (n + m) ≡ true
more_ids n m h = grind (arith, nat_tests, h)

module _ (s : Schema) (name : Text) (p : ℕ) (ds : List Decl)
    (rules : keeps_rules s ≡ true) (few : s.next_field ≤ 4294967295) (proper : is_name name ≡ true) (all_proper : list_all (λ d. is_name d.name) ds ≡ true)
    (fresh : class_named s name ≡ None) (up : p ≤ length s.classes)
    (distinct : are_distinct (names_of ds) ≡ true) (free : list_any (λ n. is_some (field_named s p n)) (names_of ds) ≡ false)
    (within : is_within_limits (with_new_class s name p ds) ≡ true) where
  new : ClassDef
  new = record { name = name; parent = p; fields = declared_fields [] s.next_field ds }

  next : ℕ
  next = s.next_field + length ds

  earlier : IsEarlier s
  earlier = is_earlier s (rules_kept s rules).parents

  some : 1 ≤ s.next_field
  some = let h = (and_parts (nat_le 1 s.next_field) _ (rules_kept s rules).drawn).0 in grind (arith, nat_tests, h)

  parents : has_earlier_parents (grown s new next) ≡ true
  unfolding new
  parents =
      let b : nat_lt p (1 + length s.classes) ≡ true = grind (arith, nat_tests, up) in
      ap (list_all (λ e. nat_lt (e.1).parent e.0)) (enumerated 1 s.classes new)
      ∙ list_all-append (λ (e : ℕ × ClassDef). nat_lt (e.1).parent e.0) (enumerate_from 1 s.classes) ((1 + length s.classes, new) ∷ [])
      ∙ and_from _ _ (rules_kept s rules).parents (and_from _ _ b refl)

  fields_of_new : fields_of (grown s new next) (suc (length s.classes)) ≡ fields_of s p ++ stated_fields [] s.next_field ds
  unfolding new
  fields_of_new =
      let t = grown s new next in
      let e = at_the_end s.classes new in
      sym (fields_pushed [] t (suc (length s.classes)) parents (omega arith))
      ∙ (λ i. fields_of t (parent_of (e i)) ++ current (stored_fields (e i)))
      ∙ (λ i. fields_of_old s new next p earlier up i ++ declared_current [] s.next_field ds (λ f j. absurd j) refl some all_proper distinct i)

  line : are_distinct (map (λ f. f.name) (fields_of s p ++ stated_fields [] s.next_field ds)) ≡ true
  unfolding field_named
  line =
      let e = names_stated [] s.next_field ds in
      ap are_distinct (map-append (λ (f : FieldDef). f.name) (fields_of s p) (stated_fields [] s.next_field ds))
      ∙ distinct_joined (map (λ (f : FieldDef). f.name) (fields_of s p)) (map (λ (f : FieldDef). f.name) (stated_fields [] s.next_field ds)) (names_in_class s p rules up) (ap are_distinct e ∙ distinct)
      (λ t i. ap (list_any (same t)) e ∙ names_apart (fields_of s p) (names_of ds) (λ n j. none_of (λ n. is_some (field_named s p n)) n (names_of ds) free j) t i)

  all_of_new : all_fields (grown s new next) ≡ all_fields s ++ declared_fields [] s.next_field ds
  unfolding new
  all_of_new = flat_map-append (λ (c : ClassDef). c.fields) s.classes (new ∷ []) ∙ ap (λ fs. all_fields s ++ fs) (append-nil (declared_fields [] s.next_field ds))

  new_good : AllKeep next (declared_fields [] s.next_field ds)
  unfolding next
  new_good = subst (λ n. AllKeep n (declared_fields [] s.next_field ds)) (ap (λ n. s.next_field + n) (new_count ds)) (declared_keep [] s.next_field ds (λ f j. absurd j) refl some all_proper distinct)

  ids_disjoint : (n : ℕ) → IsOneOf n (ids_of (all_fields s)) → IsOneOf n (ids_of (declared_fields [] s.next_field ds)) → ⊥
  ids_disjoint n i j =
      let r = from_map (λ (f : FieldDef). f.id) n (all_fields s) i in
      let lt = id_drawn s.next_field r.0 (fields_keep_rules s rules r.0 r.1) in
      let q = r.2 in
      elim (declared_ids [] s.next_field ds (λ f k. absurd k) refl some all_proper distinct n j) as (λ _. ⊥) [ inl a ↦ absurd a | inr le ↦ omega (arith, lt, q, le) ]

  names_of_classes : are_distinct (map (λ (c : ClassDef). c.name) (s.classes ++ new ∷ [])) ≡ true
  unfolding new
  names_of_classes =
      ap are_distinct (map-append (λ (c : ClassDef). c.name) s.classes (new ∷ []))
      ∙ distinct_joined (map (λ (c : ClassDef). c.name) s.classes) (name ∷ []) (rules_kept s rules).classes refl
      (λ t i. ap (λ b. b || false) (nat_list_eq_equiv.symm t name ∙ none_of (same name) t (map (λ (c : ClassDef). c.name) s.classes) (named_by_none 1 s.classes name fresh) i))

  field_names : has_distinct_names (grown s new next) ≡ true
  field_names =
      let t = grown s new next in
      let n = length s.classes in
      let f : ℕ × ClassDef → Bool = λ e. are_distinct (map (λ f. f.name) (fields_of t e.0)) in
      let last : are_distinct (map (λ f. f.name) (fields_of t (1 + n))) ≡ true =
      subst (λ c. are_distinct (map (λ f. f.name) (fields_of t c)) ≡ true) {x = suc n} {y = 1 + n} (omega arith) (ap (λ fs. are_distinct (map (λ f. f.name) fs)) fields_of_new ∙ line) in
      ap (list_all f) (enumerated 1 s.classes new)
      ∙ list_all-append f (enumerate_from 1 s.classes) ((1 + n, new) ∷ [])
      ∙ and_from _ _
      (all_kept f (λ e. are_distinct (map (λ f. f.name) (fields_of s e.0))) 1 s.classes (λ m c lo hi. ap (λ fs. are_distinct (map (λ f. f.name) fs)) (fields_of_old s new next m earlier (omega (arith, hi)))) ∙ (rules_kept s rules).field_names)
      (and_from _ _ last refl)

  parts : Parts (grown s new next)
  unfolding new next
  parts =
      let r = rules_kept s rules in
      let names = and_parts (list_all (λ (c : ClassDef). is_name c.name) s.classes) _ r.names in
      let past = (and_parts (nat_le 1 s.next_field) _ r.drawn).0 in
      record {
        class_names = list_all-append (λ (c : ClassDef). is_name c.name) s.classes (new ∷ []) ∙ and_from _ _ names.0 (and_from _ _ proper refl);
        classes = names_of_classes;
        parents = parents;
        field_names = field_names;
        ids =
            ap (λ fs. are_apart (ids_of fs)) all_of_new ∙ ap are_apart (map-append (λ (f : FieldDef). f.id) (all_fields s) (declared_fields [] s.next_field ds))
            ∙ apart_joined (ids_of (all_fields s)) (ids_of (declared_fields [] s.next_field ds)) r.ids (declared_apart [] s.next_field ds (λ f j. absurd j) refl some all_proper distinct) ids_disjoint;
        some = more_ids s.next_field (length ds) past;
        fields = λ f i. elim (in_append f (all_fields s) (declared_fields [] s.next_field ds) (subst (IsOneOf f) all_of_new i)) as (λ _. field_keeps (s.next_field + length ds) f ≡ true) [
          | inl a ↦ keeps_later s.next_field (s.next_field + length ds) f (omega arith) (fields_keep_rules s rules f a)
          | inr b ↦ new_good f b
        ];
        order = list_all-append (λ (c : ClassDef). are_in_order c.fields) s.classes (new ∷ []) ∙ and_from _ _ r.order (and_from _ _ (declared_in_order [] s.next_field ds (λ f j. absurd j) refl some all_proper distinct) refl);
        within = within;
      }

  pub grown_keeps : keeps_rules (with_new_class s name p ds) ≡ true
  unfolding new next
  grown_keeps = parts_keep (grown s new next) parts

-- ---- what is answered

-- the names are free for a class below this one
abbrev pub are_free : Schema → ℕ → List Decl → Bool
are_free s p ds = are_distinct (names_of ds) && not (list_any (λ n. is_some (field_named s p n)) (names_of ds))

-- there is room for a class below this one with so many fields
abbrev pub is_room : Schema → ℕ → ℕ → Bool
is_room s p n = nat_lt (length s.classes) 65535 && nat_lt (length (ancestors s p)) 32 && nat_le (length (fields_of s p) + n) 255 && nat_le (s.next_field + n) 4294967295

-- the new class
abbrev pub added : Schema → Text → ℕ → List Decl → ClassDef
added s name p ds = record { name = name; parent = p; fields = stated_fields [] s.next_field ds }

added_is : (s : Schema) (name : Text) (p : ℕ) (ds : List Decl) → with_new_class s name p ds ≡ schema_of (s.classes ++ added s name p ds ∷ []) (s.next_field + length ds)
added_is s name p ds = ap (λ fs. schema_of (s.classes ++ record { name = name; parent = p; fields = fs } ∷ []) (s.next_field + length ds)) (append-nil (stated_fields [] s.next_field ds))

limits : (s : Schema) (name : Text) (p : ℕ) (ds : List Decl) → keeps_rules s ≡ true → p ≤ length s.classes → is_within_limits (with_new_class s name p ds) ≡ is_room s p (length ds)
limits s name p ds rules up = let r = rules_kept s rules in new_child_limits s name p ds r.parents r.within up

pub room_for_ids : (s : Schema) (p n : ℕ) → is_room s p n ≡ true → s.next_field + n ≤ 4294967295
room_for_ids s p n h = let r = (and_parts (nat_lt (length s.classes) 65535 && nat_lt (length (ancestors s p)) 32 && nat_le (length (fields_of s p) + n) 255) (nat_le (s.next_field + n) 4294967295) h).1 in grind (arith, nat_tests, r)

pub added_keeps : (s : Schema) (name : Text) (p : ℕ) (ds : List Decl) → keeps_rules s ≡ true → s.next_field ≤ 4294967295 → is_name name ≡ true → list_all (λ d. is_name d.name) ds ≡ true
    → class_named s name ≡ None → p ≤ length s.classes → are_free s p ds ≡ true → is_room s p (length ds) ≡ true
    → keeps_rules (schema_of (s.classes ++ added s name p ds ∷ []) (s.next_field + length ds)) ≡ true
added_keeps s name p ds rules few proper all_proper fresh up free room =
    let f = and_parts (are_distinct (names_of ds)) _ free in
    ap keeps_rules (sym (added_is s name p ds)) ∙ grown_keeps s name p ds rules few proper all_proper fresh up f.0 (not-true _ f.1) (limits s name p ds rules up ∙ room)

pub added_told : (s : Schema) (name : Text) (p : ℕ) (ds : List Decl) → keeps_rules s ≡ true → p ≤ length s.classes → are_free s p ds ≡ true → is_room s p (length ds) ≡ true
    → declared_new s name p ds ≡ Ok (schema_of (s.classes ++ added s name p ds ∷ []) (s.next_field + length ds))
added_told s name p ds rules up free room = rw (free, limits s name p ds rules up ∙ room) (ap Ok (added_is s name p ds))

pub names_taken : (s : Schema) (name : Text) (p : ℕ) (ds : List Decl) → are_free s p ds ≡ false → declared_new s name p ds ≡ Err word.Exists
names_taken s name p ds taken = rw taken refl

pub no_room : (s : Schema) (name : Text) (p : ℕ) (ds : List Decl) → keeps_rules s ≡ true → p ≤ length s.classes → are_free s p ds ≡ true → is_room s p (length ds) ≡ false
    → declared_new s name p ds ≡ Err word.Size
no_room s name p ds rules up free full = rw (free, limits s name p ds rules up ∙ full) refl

-- the ids of a new class's fields are new
pub room_for_new : (s : Schema) (p : ℕ) (ds : List Decl) → is_room s p (length ds) ≡ true → s.next_field + length (filter (is_new []) ds) ≤ 4294967295
room_for_new s p ds h = let e = new_count ds in let le = room_for_ids s p (length ds) h in omega (arith, le, e)
