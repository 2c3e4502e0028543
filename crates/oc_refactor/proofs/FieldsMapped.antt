-- A schema whose fields are changed, each by itself, with its id and whether it is current kept: the rules on classes, ids and order stay.
use Rattle.std.proofs.Common.{◌≡◌, refl, sym, ap, ◌∙◌, ℕ, zero, suc, ◌+◌, ◌≤◌, inl, inr, Bool, true, false, not, ◌&&◌, ◌||◌, ◌==◌, nat_lt, nat_le, List, [], ◌∷◌, ◌++◌, length, map, filter, flat_map, slice_get, Some, None, cond}
use Rattle.std.specs.Option.{option_map}
use Rattle.std.specs.List.{list_all, enumerate_from}
use Rattle.std.proofs.lemmas.Bool.{and_parts, and_from}
use Rattle.std.proofs.lemmas.List.{map-append}
use Rattle.std.proofs.lemmas.Option.{slice_get-map}
use Rattle.oc_model.specs.declared.schema.FieldDef.{FieldDef}
use Rattle.oc_model.specs.declared.schema.ClassDef.{ClassDef}
use Rattle.oc_model.specs.Lists.{IsOneOf}
use Rattle.oc_model.specs.Maps.{are_distinct}
use Rattle.oc_model.specs.Schemas.{Schema, class_at, parent_of, current, own_fields, fields_within, below_within, fields_of, is_sub}
use Rattle.oc_model.specs.SchemaRules.{is_name, is_above, ancestors, all_fields, are_in_order, are_apart, has_distinct_classes, keeps_rules}
use Rattle.oc_model.proofs.Elements.{in_left, in_right}
use Rattle.oc_schema.specs.ClassRules.{field_keeps, fields_keep, class_keeps}
use Rattle.oc_schema.specs.Drafts.{line_keeps, lines_keep, own_rules_keep}
use Rattle.oc_schema.proofs.Parting.{parted}

-- the class with each field changed
abbrev pub mapped : (FieldDef → FieldDef) → ClassDef → ClassDef
mapped g c = record c { fields = map g c.fields }

-- the schema with each field changed
abbrev pub with_fields : Schema → (FieldDef → FieldDef) → Schema
with_fields s g = record s { classes = map (mapped g) s.classes }

-- ---- lists with their numbers

numbers_all : (f g : ℕ → Bool) (h : ClassDef → ClassDef) (n : ℕ) (cs : List ClassDef) → ((m : ℕ) → f m ≡ true → g m ≡ true)
    → list_all (λ x. f x.0) (enumerate_from n cs) ≡ true → list_all (λ x. g x.0) (enumerate_from n (map h cs)) ≡ true
numbers_all f g h n [] k all = refl
numbers_all f g h n (c ∷ cs) k all =
    let r = and_parts (f n) (list_all (λ x. f x.0) (enumerate_from (n + 1) cs)) all in
    and_from (g n) (list_all (λ x. g x.0) (enumerate_from (n + 1) (map h cs))) (k n r.0) (numbers_all f g h (n + 1) cs k r.1)

numbers_counted : (f : ℕ → Bool) (h : ClassDef → ClassDef) (n : ℕ) (cs : List ClassDef)
    → length (filter (λ (x : ℕ × ClassDef). f x.0) (enumerate_from n (map h cs))) ≡ length (filter (λ (x : ℕ × ClassDef). f x.0) (enumerate_from n cs))
numbers_counted f h n [] = refl
numbers_counted f h n (c ∷ cs) =
    let new = filter (λ (x : ℕ × ClassDef). f x.0) (enumerate_from (n + 1) (map h cs)) in
    let old = filter (λ (x : ℕ × ClassDef). f x.0) (enumerate_from (n + 1) cs) in
    elim (f n) as (λ b. length (cond b ((n, h c) ∷ new) new) ≡ length (cond b ((n, c) ∷ old) old)) [ true ↦ ap suc (numbers_counted f h (n + 1) cs) | false ↦ numbers_counted f h (n + 1) cs ]

length_mapped : {X Y : Type 0} (f : X → Y) (xs : List X) → length (map f xs) ≡ length xs
length_mapped f [] = refl
length_mapped f (x ∷ xs) = ap suc (length_mapped f xs)

names_mapped : (g : FieldDef → FieldDef) (cs : List ClassDef) → map (λ (c : ClassDef). c.name) (map (mapped g) cs) ≡ map (λ (c : ClassDef). c.name) cs
names_mapped g [] = refl
names_mapped g (c ∷ cs) = ap (λ ns. c.name ∷ ns) (names_mapped g cs)

-- ---- fields that keep their ids and stay current or past

module _ (g : FieldDef → FieldDef) (ids : (f : FieldDef) → (g f).id ≡ f.id) (stays : (f : FieldDef) → (g f).current ≡ f.current) where
  current_mapped : (fs : List FieldDef) → current (map g fs) ≡ map g (current fs)
  current_mapped [] = refl
  current_mapped (f ∷ fs) =
      ap (λ b. cond b (g f ∷ current (map g fs)) (current (map g fs))) (stays f)
      ∙ ap (λ gs. cond f.current (g f ∷ gs) gs) (current_mapped fs)
      ∙ (elim f.current as (λ b. cond b (g f ∷ map g (current fs)) (map g (current fs)) ≡ map g (cond b (f ∷ current fs) (current fs))) [ true ↦ refl | false ↦ refl ])

  pub ids_mapped : (fs : List FieldDef) → map (λ f. f.id) (map g fs) ≡ map (λ f. f.id) fs
  ids_mapped [] = refl
  ids_mapped (f ∷ fs) = λ i. ids f i ∷ ids_mapped fs i

  order_mapped : (fs : List FieldDef) → are_in_order (map g fs) ≡ are_in_order fs
  order_mapped [] = refl
  order_mapped (f ∷ []) = refl
  order_mapped (f ∷ h ∷ fs) = λ i. (stays f i || not (stays h i) && nat_lt (ids f i) (ids h i)) && order_mapped (h ∷ fs) i

  all_ids_mapped : (cs : List ClassDef) → map (λ f. f.id) (flat_map (λ (c : ClassDef). c.fields) (map (mapped g) cs)) ≡ map (λ f. f.id) (flat_map (λ (c : ClassDef). c.fields) cs)
  all_ids_mapped [] = refl
  all_ids_mapped (c ∷ cs) =
      map-append (λ f. f.id) (map g c.fields) _ ∙ (λ i. ids_mapped c.fields i ++ all_ids_mapped cs i) ∙ sym (map-append (λ f. f.id) c.fields _)

  -- ---- what is above a class, and its fields

  parents_mapped : (s : Schema) (c : ℕ) → parent_of (class_at (with_fields s g) c) ≡ parent_of (class_at s c)
  parents_mapped s zero = refl
  parents_mapped s (suc j) =
      ap parent_of (slice_get-map (mapped g) s.classes j)
      ∙ (elim (slice_get s.classes j) as (λ o. parent_of (option_map (mapped g) o) ≡ parent_of o) [ None ↦ refl | Some c ↦ refl ])

  own_mapped : (s : Schema) (c : ℕ) → own_fields (class_at (with_fields s g) c) ≡ map g (own_fields (class_at s c))
  own_mapped s zero = refl
  own_mapped s (suc j) =
      ap own_fields (slice_get-map (mapped g) s.classes j)
      ∙ (elim (slice_get s.classes j) as (λ o. own_fields (option_map (mapped g) o) ≡ map g (own_fields o)) [ None ↦ refl | Some c ↦ current_mapped c.fields ])

  fields_mapped : (n : ℕ) (s : Schema) (c : ℕ) → fields_within n (with_fields s g) c ≡ map g (fields_within n s c)
  fields_mapped zero s c = refl
  fields_mapped (suc n) s c =
      (λ j. fields_within n (with_fields s g) (parents_mapped s c j) ++ own_mapped s c j)
      ∙ ap (λ fs. fs ++ map g (own_fields (class_at s c))) (fields_mapped n s (parent_of (class_at s c)))
      ∙ sym (map-append g (fields_within n s (parent_of (class_at s c))) (own_fields (class_at s c)))

  below_mapped : (n : ℕ) (s : Schema) (a b : ℕ) → below_within n (with_fields s g) a b ≡ below_within n s a b
  below_mapped zero s a b = refl
  below_mapped (suc n) s a b =
      ap (λ p. a == b || below_within n (with_fields s g) p b) (parents_mapped s a) ∙ ap (λ r. a == b || r) (below_mapped n s (parent_of (class_at s a)) b)

  ancestors_mapped : (s : Schema) (c : ℕ) → length (ancestors (with_fields s g) c) ≡ length (ancestors s c)
  unfolding is_sub
  ancestors_mapped s c =
      numbers_counted (λ m. is_above (with_fields s g) m c) (mapped g) 1 s.classes
      ∙ ap (λ (f : ℕ → Bool). length (filter (λ (x : ℕ × ClassDef). f x.0) (enumerate_from 1 s.classes))) (λ j m. not (m == c) && below_mapped c s c m j)

  -- ---- the rules

  fields_all : (next : ℕ) (fs : List FieldDef) → ((f : FieldDef) → IsOneOf f fs → field_keeps next f ≡ true → field_keeps next (g f) ≡ true)
      → list_all (field_keeps next) fs ≡ true → list_all (field_keeps next) (map g fs) ≡ true
  fields_all next [] good h = refl
  fields_all next (f ∷ fs) good h =
      let r = and_parts (field_keeps next f) (list_all (field_keeps next) fs) h in
      and_from _ _ (good f (inl refl) r.0) (fields_all next fs (λ k i. good k (inr i)) r.1)

  classes_all : (next n : ℕ) (cs : List ClassDef) → ((f : FieldDef) → IsOneOf f (flat_map (λ (c : ClassDef). c.fields) cs) → field_keeps next f ≡ true → field_keeps next (g f) ≡ true)
      → list_all (class_keeps next) (enumerate_from n cs) ≡ true → list_all (class_keeps next) (enumerate_from n (map (mapped g) cs)) ≡ true
  classes_all next n [] good h = refl
  classes_all next n (c ∷ cs) good h =
      let r = and_parts (class_keeps next (n, c)) (list_all (class_keeps next) (enumerate_from (n + 1) cs)) h in
      let a = and_parts (is_name c.name && nat_lt c.parent n) (fields_keep next c.fields) r.0 in
      let b = and_parts (nat_le (length c.fields) 1000 && are_in_order c.fields) (list_all (field_keeps next) c.fields) a.1 in
      let few = ap (λ m. nat_le m 1000) (length_mapped g c.fields) ∙ (and_parts _ _ b.0).0 in
      let order = order_mapped c.fields ∙ (and_parts (nat_le (length c.fields) 1000) (are_in_order c.fields) b.0).1 in
      and_from _ _
      (and_from _ _ a.0 (and_from _ _ (and_from _ _ few order) (fields_all next c.fields (λ f i. good f (in_left f c.fields _ i)) b.1)))
      (classes_all next (n + 1) cs (λ f i. good f (in_right f c.fields _ i)) r.1)

  pub mapped_keeps : (s : Schema) → s.next_field ≤ 4294967295 → keeps_rules s ≡ true
      → ((f : FieldDef) → IsOneOf f (all_fields s) → field_keeps s.next_field f ≡ true → field_keeps s.next_field (g f) ≡ true)
      → ((c : ℕ) → are_distinct (map (λ f. f.name) (fields_of s c)) ≡ true → are_distinct (map (λ f. f.name) (map g (fields_of s c))) ≡ true)
      → keeps_rules (with_fields s g) ≡ true
  unfolding fields_of
  mapped_keeps s few rules good distinct =
      let cs = s.classes in
      let t = with_fields s g in
      let parts = sym (parted cs s.next_field few) ∙ rules in
      let p1 = and_parts _ (has_distinct_classes s) parts in
      let p2 = and_parts (own_rules_keep cs s.next_field) (lines_keep s) p1.0 in
      let k1 = and_parts _ (are_apart (map (λ f. f.id) (all_fields s))) p2.0 in
      let k2 = and_parts _ (list_all (class_keeps s.next_field) (enumerate_from 1 cs)) k1.0 in
      let k3 = and_parts (nat_le (length cs) 65535) (nat_le 1 s.next_field) k2.0 in
      let own = and_from _ _
      (and_from _ _ (and_from _ _ (ap (λ m. nat_le m 65535) (length_mapped (mapped g) cs) ∙ k3.0) k3.1) (classes_all s.next_field 1 cs good k2.1))
      (ap are_apart (all_ids_mapped cs) ∙ k1.1) in
      let line : (c : ℕ) → line_keeps s c ≡ true → line_keeps t c ≡ true =
      λ c h.
      let a = and_parts (nat_le (length (ancestors s c)) 32 && nat_le (length (fields_of s c)) 255) (are_distinct (map (λ f. f.name) (fields_of s c))) h in
      let b = and_parts (nat_le (length (ancestors s c)) 32) (nat_le (length (fields_of s c)) 255) a.0 in
      and_from _ _
      (and_from _ _ (ap (λ m. nat_le m 32) (ancestors_mapped s c) ∙ b.0) (ap (λ m. nat_le m 255) (ap (λ (fs : List FieldDef). length fs) (fields_mapped c s c) ∙ length_mapped g (fields_of s c)) ∙ b.1))
      (ap (λ fs. are_distinct (map (λ f. f.name) fs)) (fields_mapped c s c) ∙ distinct c a.1) in
      parted t.classes s.next_field few
      ∙ and_from _ _ (and_from _ _ own (numbers_all (line_keeps s) (line_keeps t) (mapped g) 1 cs line p2.1)) (ap are_distinct (names_mapped g cs) ∙ p1.1)
