-- The rules of a schema, parted into those of each class, those of its line, and those of all.
use Rattle.std.proofs.Common.{◌≡◌, refl, sym, ap, ◌∙◌, ℕ, zero, suc, ◌+◌, ◌<◌, Bool, true, false, not, ◌≤◌, ◌&&◌, ◌||◌, nat_lt, nat_le, List, [], ◌∷◌, length, map, flat_map, slice_get, drop, arith, is_some, IsTrue, ◌↔◌, true≢false, Some, cond, Option, None, IfSome, ◌++◌, length-append}
use denote.Ref.{Bor}
use Rattle.std.proofs.lemmas.Bool.Decides.{nat_tests}
use Rattle.std.proofs.lemmas.List.{drop_more}
use Rattle.std.proofs.lemmas.List.Folds.{list_all-append}
use Rattle.std.specs.Cmp.{both_ways}
use Rattle.std.specs.List.{list_all, enumerate_from}
use Rattle.oc_model.specs.declared.schema.FieldDef.{FieldDef}
use Rattle.oc_model.specs.declared.schema.ClassDef.{ClassDef}
use Rattle.oc_model.specs.Schemas.{Schema, empty_schema, class_at, class_named, number_from, fields_of}
use Rattle.oc_model.specs.Maps.{Text, same, are_distinct}
use Rattle.oc_model.specs.SchemaRules.{numbered, is_name, are_in_order, are_apart, ancestors, has_few_classes, has_few_ancestors, has_few_fields, has_few_own_fields, has_few_ids, has_names, has_distinct_classes, has_earlier_parents, has_distinct_names, has_distinct_ids, has_drawn_ids, has_ordered_fields, has_no_past_index, has_no_array_index, is_within_limits, keeps_rules}
use Rattle.oc_model.specs.StoreRules.{Suits, is_known, are_ascending}
use Rattle.oc_model.specs.Spelling.{entry_fits}
use Rattle.oc_model.specs.Kinds.{is_array}
use Rattle.oc_schema.specs.ClassRules.{field_keeps, fields_keep, class_keeps}
use Rattle.oc_model.specs.declared.value.Rec.{Rec}
use Rattle.std.proofs.lemmas.Bool.{and_parts, and_right}
use Rattle.oc_schema.specs.Drafts.{schema_of, own_rules_keep, line_keeps, lines_keep, suits_by_parts}

-- one class more
lines_more : (s : Schema) (c : ClassDef) (i : ℕ) → i < length s.classes
    → list_all (λ e. line_keeps s e.0) (enumerate_from (i + 1) (drop i s.classes)) ≡ (line_keeps s (i + 1) && list_all (λ e. line_keeps s e.0) (enumerate_from (i + 1 + 1) (drop (i + 1) s.classes)))
lines_more s c i lt = ap (λ cs. list_all (λ e. line_keeps s e.0) (enumerate_from (i + 1) cs)) (drop_more s.classes i c lt)

first_class : (cs : List ClassDef) (i : ℕ) → i < length cs → ClassDef
first_class [] i lt = absurd (omega arith)
first_class (c ∷ cs) i lt = c

pub lines_turn : (s : Schema) (i : ℕ) → i < length s.classes
    → list_all (λ e. line_keeps s e.0) (enumerate_from (i + 1) (drop i s.classes)) ≡ (line_keeps s (i + 1) && list_all (λ e. line_keeps s e.0) (enumerate_from (i + 1 + 1) (drop (i + 1) s.classes)))
lines_turn s i lt = lines_more s (first_class s.classes i lt) i lt

names_now : (fs : List (Bor FieldDef)) → map (λ f. f.now.name) fs ≡ map (λ f. f.name) (map (λ f. f.now) fs)
names_now [] = refl
names_now (f ∷ fs) = ap (λ ts. f.now.name ∷ ts) (names_now fs)

length_now : (fs : List (Bor FieldDef)) → length (map (λ f. f.now) fs) ≡ length fs
length_now [] = refl
length_now (f ∷ fs) = ap suc (length_now fs)

pub line_kept : (s : Schema) (n : ℕ) (fs : List (Bor FieldDef)) → map (λ f. f.now) fs ≡ fields_of s n → length (ancestors s n) ≤ 32 → length fs ≤ 255
    → are_distinct (map (λ f. f.now.name) fs) ≡ line_keeps s n
line_kept s n fs these few_ancestors few_fields =
    let deep : nat_le (length (ancestors s n)) 32 ≡ true = grind (arith, nat_tests) in
    let wide : nat_le (length fs) 255 ≡ true = grind (arith, nat_tests) in
    ap are_distinct (names_now fs ∙ ap (map (λ f. f.name)) these)
    ∙ (λ i. sym deep i && sym (ap (λ m. nat_le m 255) (ap (λ (gs : List FieldDef). length gs) (sym these) ∙ length_now fs) ∙ wide) i && are_distinct (map (λ f. f.name) (fields_of s n)))

-- ---- tests of all elements

two : (a b c d : Bool) → ((a && b) && (c && d)) ≡ ((a && c) && (b && d))
two true true c d = refl
two true false c d = sym (and_right c false refl)
two false b c d = refl

all_both : {X : Type 0} (p q : X → Bool) (xs : List X) → list_all (λ x. p x && q x) xs ≡ (list_all p xs && list_all q xs)
all_both p q [] = refl
all_both p q (x ∷ xs) = ap (λ b. (p x && q x) && b) (all_both p q xs) ∙ two (p x) (q x) (list_all p xs) (list_all q xs)

by_class : (g : ClassDef → Bool) (n : ℕ) (cs : List ClassDef) → list_all (λ (e : ℕ × ClassDef). g e.1) (enumerate_from n cs) ≡ list_all g cs
by_class g n [] = refl
by_class g n (c ∷ cs) = ap (λ b. g c && b) (by_class g (n + 1) cs)

by_field : (g : FieldDef → Bool) (cs : List ClassDef) → list_all (λ (c : ClassDef). list_all g c.fields) cs ≡ list_all g (flat_map (λ (c : ClassDef). c.fields) cs)
by_field g [] = refl
by_field g (c ∷ cs) = ap (λ b. list_all g c.fields && b) (by_field g cs) ∙ sym (list_all-append g c.fields (flat_map (λ (c : ClassDef). c.fields) cs))

is_drawn : ℕ → FieldDef → Bool
is_drawn next f = nat_le 1 f.id && nat_lt f.id next

fields_parted : (next : ℕ) (fs : List FieldDef)
    → list_all (field_keeps next) fs
    ≡ (list_all (λ f. is_name f.name) fs && list_all (is_drawn next) fs && list_all (λ f. f.current || not f.indexed) fs && list_all (λ f. not (f.indexed && is_array f.kind)) fs)
unfolding is_drawn
fields_parted next fs =
    let a : FieldDef → Bool = λ f. is_name f.name in
    let b : FieldDef → Bool = is_drawn next in
    let c : FieldDef → Bool = λ f. f.current || not f.indexed in
    let d : FieldDef → Bool = λ f. not (f.indexed && is_array f.kind) in
    all_both (λ f. a f && b f && c f) d fs ∙ ap (λ t. t && list_all d fs) (all_both (λ f. a f && b f) c fs ∙ ap (λ t. t && list_all c fs) (all_both a b fs))

classes_parted : (next : ℕ) (cs : List ClassDef)
    → list_all (class_keeps next) (enumerate_from 1 cs)
    ≡ (list_all (λ c. is_name c.name) cs && list_all (λ (e : ℕ × ClassDef). nat_lt (e.1).parent e.0) (enumerate_from 1 cs)
    && (list_all (λ (c : ClassDef). nat_le (length c.fields) 1000) cs && list_all (λ (c : ClassDef). are_in_order c.fields) cs && list_all (field_keeps next) (flat_map (λ (c : ClassDef). c.fields) cs)))
classes_parted next cs =
    let es = enumerate_from 1 cs in
    let a : ℕ × ClassDef → Bool = λ e. is_name (e.1).name in
    let b : ℕ × ClassDef → Bool = λ e. nat_lt (e.1).parent e.0 in
    let l : ClassDef → Bool = λ c. nat_le (length c.fields) 1000 in
    let o : ClassDef → Bool = λ c. are_in_order c.fields in
    let f : ClassDef → Bool = λ c. list_all (field_keeps next) c.fields in
    all_both (λ e. a e && b e) (λ e. fields_keep next (e.1).fields) es
    ∙ (λ i.
    (all_both a b es ∙ ap (λ t. t && list_all b es) (by_class (λ c. is_name c.name) 1 cs)) i
    && (by_class (λ c. l c && o c && f c) 1 cs ∙ all_both (λ c. l c && o c) f cs ∙ (λ j. all_both l o cs j && by_field (field_keeps next) cs j)) i)

lines_parted : (s : Schema) → lines_keep s ≡ (has_few_ancestors s && has_few_fields s && has_distinct_names s)
lines_parted s =
    let es = numbered s in
    let a : ℕ × ClassDef → Bool = λ e. nat_le (length (ancestors s e.0)) 32 in
    let b : ℕ × ClassDef → Bool = λ e. nat_le (length (fields_of s e.0)) 255 in
    let c : ℕ × ClassDef → Bool = λ e. are_distinct (map (λ f. f.name) (fields_of s e.0)) in
    all_both (λ e. a e && b e) c es ∙ ap (λ t. t && list_all c es) (all_both a b es)

-- ---- the rules

arranged : (n1 n2 d p dn b f dr o x y e an ff l : Bool)
    → (n1 && n2 && d && p && dn && b && (f && dr) && o && x && y && (e && an && ff && l && true)) ≡ (e && f && (n1 && p && (l && o && (n2 && dr && x && y))) && b && (an && ff && dn) && d)
arranged n1 n2 d p dn b f dr o x y e an ff l = both_ways _ _ there back
  where
    there : (n1 && n2 && d && p && dn && b && (f && dr) && o && x && y && (e && an && ff && l && true)) ≡ true → (e && f && (n1 && p && (l && o && (n2 && dr && x && y))) && b && (an && ff && dn) && d) ≡ true
    there h =
        let h1 = and_parts _ (e && an && ff && l && true) h in
        let h2 = and_parts _ y h1.0 in
        let h3 = and_parts _ x h2.0 in
        let h4 = and_parts _ o h3.0 in
        let h5 = and_parts _ (f && dr) h4.0 in
        let h6 = and_parts _ b h5.0 in
        let h7 = and_parts _ dn h6.0 in
        let h8 = and_parts _ p h7.0 in
        let h9 = and_parts _ d h8.0 in
        let h10 = and_parts n1 n2 h9.0 in
        let k = and_parts f dr h5.1 in
        let m1 = and_parts _ true h1.1 in
        let m2 = and_parts _ l m1.0 in
        let m3 = and_parts _ ff m2.0 in
        let m4 = and_parts e an m3.0 in
        rw (m4.0, k.0, h10.0, h8.1, m2.1, h4.1, h10.1, k.1, h3.1, h2.1, h6.1, m4.1, m3.1, h7.1, h9.1) refl

    back : (e && f && (n1 && p && (l && o && (n2 && dr && x && y))) && b && (an && ff && dn) && d) ≡ true → (n1 && n2 && d && p && dn && b && (f && dr) && o && x && y && (e && an && ff && l && true)) ≡ true
    back h =
        let h1 = and_parts _ d h in
        let h2 = and_parts _ (an && ff && dn) h1.0 in
        let h3 = and_parts _ b h2.0 in
        let h4 = and_parts _ (n1 && p && (l && o && (n2 && dr && x && y))) h3.0 in
        let h5 = and_parts e f h4.0 in
        let k1 = and_parts _ dn h2.1 in
        let k2 = and_parts an ff k1.0 in
        let m1 = and_parts _ (l && o && (n2 && dr && x && y)) h4.1 in
        let m2 = and_parts n1 p m1.0 in
        let m3 = and_parts _ (n2 && dr && x && y) m1.1 in
        let m4 = and_parts l o m3.0 in
        let m5 = and_parts _ y m3.1 in
        let m6 = and_parts _ x m5.0 in
        let m7 = and_parts n2 dr m6.0 in
        rw (m2.0, m7.0, h1.1, m2.1, k1.1, h3.1, h5.1, m7.1, m4.1, m6.1, m5.1, h5.0, k2.0, k2.1, m4.0) refl

-- the rules of each class, of each line, and that of the names
pub parted : (cs : List ClassDef) (next : ℕ) → next ≤ 4294967295
    → keeps_rules (schema_of cs next) ≡ (own_rules_keep cs next && lines_keep (schema_of cs next) && has_distinct_classes (schema_of cs next))
unfolding keeps_rules is_within_limits is_drawn
parted cs next few =
    let s = schema_of cs next in
    let ids : nat_le next 4294967295 ≡ true = grind (arith, nat_tests) in
    let fs = flat_map (λ (c : ClassDef). c.fields) cs in
    ap
    (λ t.
    has_names s && has_distinct_classes s && has_earlier_parents s && has_distinct_names s && has_distinct_ids s && has_drawn_ids s && has_ordered_fields s && has_no_past_index s
    && has_no_array_index s && (has_few_classes s && has_few_ancestors s && has_few_fields s && has_few_own_fields s && t))
    ids
    ∙ arranged (list_all (λ c. is_name c.name) cs) (list_all (λ f. is_name f.name) fs) (has_distinct_classes s) (has_earlier_parents s) (has_distinct_names s) (has_distinct_ids s) (nat_le 1 next) (list_all (is_drawn next) fs)
    (has_ordered_fields s) (has_no_past_index s) (has_no_array_index s) (has_few_classes s) (has_few_ancestors s) (has_few_fields s) (has_few_own_fields s)
    ∙ sym (λ i.
    has_few_classes s && nat_le 1 next
    && (classes_parted next cs
    ∙ ap (λ t. list_all (λ c. is_name c.name) cs && has_earlier_parents s && (has_few_own_fields s && has_ordered_fields s && t)) (fields_parted next fs)) i
    && has_distinct_ids s
    && lines_parted s i
    && has_distinct_classes s)

module _ (cs : List ClassDef) (next : ℕ) (few : next ≤ 4294967295) where
  pub own_broken : own_rules_keep cs next ≡ false → keeps_rules (schema_of cs next) ≡ false
  own_broken h = parted cs next few ∙ ap (λ t. t && lines_keep (schema_of cs next) && has_distinct_classes (schema_of cs next)) h

  pub lines_broken : lines_keep (schema_of cs next) ≡ false → keeps_rules (schema_of cs next) ≡ false
  lines_broken h = parted cs next few ∙ ap (λ t. t && has_distinct_classes (schema_of cs next)) (and_right (own_rules_keep cs next) (lines_keep (schema_of cs next)) h)

  pub names_broken : has_distinct_classes (schema_of cs next) ≡ false → keeps_rules (schema_of cs next) ≡ false
  names_broken h = parted cs next few ∙ and_right (own_rules_keep cs next && lines_keep (schema_of cs next)) (has_distinct_classes (schema_of cs next)) h

  pub none_broken : own_rules_keep cs next ≡ true → lines_keep (schema_of cs next) ≡ true → has_distinct_classes (schema_of cs next) ≡ true → keeps_rules (schema_of cs next) ≡ true
  none_broken h k l = parted cs next few ∙ (λ i. h i && k i && l i)

pub own_has_parents : (cs : List ClassDef) (next : ℕ) → own_rules_keep cs next ≡ true → has_earlier_parents (schema_of cs next) ≡ true
own_has_parents cs next h =
    let ids = and_parts _ (are_apart (map (λ f. f.id) (flat_map (λ (c : ClassDef). c.fields) cs))) h in
    let classes = and_parts _ (list_all (class_keeps next) (enumerate_from 1 cs)) ids.0 in
    let parts = sym (classes_parted next cs) ∙ classes.1 in
    (and_parts _ (has_earlier_parents (schema_of cs next)) (and_parts _ _ parts).0).1

pub own_has_few : (cs : List ClassDef) (next : ℕ) → own_rules_keep cs next ≡ true → length cs ≤ 65535
own_has_few cs next h =
    let ids = and_parts _ (are_apart (map (λ f. f.id) (flat_map (λ (c : ClassDef). c.fields) cs))) h in
    let classes = and_parts _ (list_all (class_keeps next) (enumerate_from 1 cs)) ids.0 in
    let few = (and_parts (nat_le (length cs) 65535) (nat_le 1 next) classes.0).0 in
    grind (arith, nat_tests, few)

pub earlier_parents : (s : Schema) → keeps_rules s ≡ true → has_earlier_parents s ≡ true
unfolding keeps_rules
earlier_parents s h =
    let limits = and_parts _ (is_within_limits s) h in
    let arrays = and_parts _ (has_no_array_index s) limits.0 in
    let past = and_parts _ (has_no_past_index s) arrays.0 in
    let order = and_parts _ (has_ordered_fields s) past.0 in
    let drawn = and_parts _ (has_drawn_ids s) order.0 in
    let ids = and_parts _ (has_distinct_ids s) drawn.0 in
    let field_names = and_parts _ (has_distinct_names s) ids.0 in
    (and_parts _ (has_earlier_parents s) field_names.0).1

-- and at most as great as there are classes
pub class_within : (s : Schema) (c : ℕ) → is_some (class_at s c) ≡ true → (1 ≤ c) × (c ≤ length s.classes)
class_within s zero h = absurd (true≢false (sym h))
class_within s (suc c) h = (omega arith, within s.classes c h)
  where
    within : (cs : List ClassDef) (i : ℕ) → is_some (slice_get cs i) ≡ true → suc i ≤ length cs
    within [] i h = absurd (true≢false (sym h))
    within (c ∷ cs) zero h = omega arith
    within (c ∷ cs) (suc i) h = let r = within cs i h in omega arith

pub few_classes : (s : Schema) → keeps_rules s ≡ true → length s.classes ≤ 65535
unfolding keeps_rules is_within_limits
few_classes s h =
    let limits = and_parts _ (is_within_limits s) h in
    let ids = and_parts _ (has_few_ids s) limits.1 in
    let own = and_parts _ (has_few_own_fields s) ids.0 in
    let fields = and_parts _ (has_few_fields s) own.0 in
    let classes = and_parts (has_few_classes s) (has_few_ancestors s) fields.0 in
    let few = classes.0 in
    grind (arith, nat_tests, few)

-- a class more finds a number
pub few_last : (cs : List ClassDef) (c : ClassDef) (next : ℕ) → keeps_rules (schema_of (cs ++ c ∷ []) next) ≡ true → length cs + 1 ≤ 65535
few_last cs c next h = let few = few_classes (schema_of (cs ++ c ∷ []) next) h in omega (arith, few, length-append cs (c ∷ []))

-- no two classes have one name
pub distinct_classes : (s : Schema) → keeps_rules s ≡ true → are_distinct (map (λ c. c.name) s.classes) ≡ true
unfolding keeps_rules
distinct_classes s h =
    let limits = and_parts _ (is_within_limits s) h in
    let arrays = and_parts _ (has_no_array_index s) limits.0 in
    let past = and_parts _ (has_no_past_index s) arrays.0 in
    let order = and_parts _ (has_ordered_fields s) past.0 in
    let drawn = and_parts _ (has_drawn_ids s) order.0 in
    let ids = and_parts _ (has_distinct_ids s) drawn.0 in
    let field_names = and_parts _ (has_distinct_names s) ids.0 in
    let parents = and_parts _ (has_earlier_parents s) field_names.0 in
    (and_parts (has_names s) (has_distinct_classes s) parents.0).1

-- a class that is there has a number from 1 on
pub class_there : (s : Schema) (c : ℕ) → is_some (class_at s c) ≡ true → 1 ≤ c
class_there s zero h = absurd (true≢false (sym h))
class_there s (suc c) h = omega arith

pub suits_told : (s : Schema) (r : Rec) (b : Bool) → b ≡ suits_by_parts s r → IsTrue b ↔ Suits s r
suits_told s r b e = (
  λ t.
      let h = sym e ∙ t in
      let ids = and_parts _ (are_ascending (map (λ e. e.id) r.entries)) h in
      let fits = and_parts _ (list_all entry_fits r.entries) ids.0 in
      let known = and_parts (is_some (class_at s r.class)) (list_all (is_known s r.class) r.entries) fits.0 in
      record { class = known.0; known = known.1; fits = fits.1; by_id = ids.1 },
  λ h. e ∙ (rw (h.class, h.known, h.fits, h.by_id) refl),
)

pub empty_keeps : keeps_rules empty_schema ≡ true
unfolding keeps_rules is_within_limits
empty_keeps = refl

-- the class of a name is there
named_there : (s : Schema) (name : Text) (n : ℕ) → class_named s name ≡ Some n → is_some (class_at s n) ≡ true
named_there s name n h = let r = numbered_there 1 s.classes n h in at_place s n r.0 (r.1, r.2)
  where
    numbered_there : (m : ℕ) (cs : List ClassDef) (n : ℕ) → number_from m cs name ≡ Some n → (i : ℕ) × (n ≡ m + i) × (is_some (slice_get cs i) ≡ true)
    numbered_there m [] n h = absurd (cc)
    numbered_there m (c ∷ cs) n h =
        (elim (same c.name name) as (λ b. cond b (Some m) (number_from (m + 1) cs name) ≡ Some n → (i : ℕ) × (n ≡ m + i) × (is_some (slice_get (c ∷ cs) i) ≡ true)) [
          | true ↦ λ h. let q : m ≡ n = cc in (0, omega (arith, q), refl)
          | false ↦ λ h. let r = numbered_there (m + 1) cs n h in let e = r.1 in (suc r.0, omega (arith, e), r.2)
        ]) h

    at_place : (s : Schema) (n : ℕ) (i : ℕ) → (n ≡ 1 + i) × (is_some (slice_get s.classes i) ≡ true) → is_some (class_at s n) ≡ true
    at_place s zero i h = absurd (omega (arith, h.0))
    at_place s (suc k) i h = let q : k ≡ i = omega (arith, h.0) in ap (λ j. is_some (slice_get s.classes j)) q ∙ h.1

pub some_there : (s : Schema) (name : Text) (o : Option ℕ) → o ≡ class_named s name → IfSome o (λ n. is_some (class_at s n) ≡ true)
some_there s name None h = tt
some_there s name (Some n) h = named_there s name n (sym h)
