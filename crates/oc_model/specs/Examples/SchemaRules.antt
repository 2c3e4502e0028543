-- Schemas that keep the rules, and some that break one; schemas that differ.
use Rattle.std.specs.Prelude.{◌≡◌, refl, ℕ, ◌+◌, true, false, [], ◌∷◌, map, replicate}
use Rattle.std.specs.List.{range_with_len}
use Rattle.oc_model.specs.Schemas.{Schema, empty_schema}
use Rattle.oc_model.specs.SchemaRules.{has_names, has_distinct_classes, has_earlier_parents, has_distinct_names, has_distinct_ids, has_drawn_ids, has_ordered_fields, has_no_past_index, has_no_array_index, has_few_classes, has_few_own_fields, keeps_rules}
use Rattle.oc_model.specs.SchemaEquality.{differs}
use Rattle.oc_model.specs.Examples.SchemaLines.{schemas, i8, i32, text, i8s, field, indexed, past, a_class, a_schema}

-- ---- the rules

-- classes one below another, an index, and past fields
abbrev sound : Schema
sound = a_schema 6 (a_class "A" 0 (field 4 "a" i8s ∷ indexed 1 "b" text ∷ past 2 "a" i32 ∷ past 3 "a" text ∷ []) ∷ a_class "B" 1 (field 5 "c" i8 ∷ []) ∷ [])

sound_one : keeps_rules sound ≡ true
unfolding schemas
sound_one = refl

empty_one : keeps_rules empty_schema ≡ true
unfolding schemas
empty_one = refl

names : has_names (a_schema 2 (a_class "A" 0 (field 1 "order" text ∷ []) ∷ [])) ≡ false
names = refl

no_number_first : has_names (a_schema 1 (a_class "1A" 0 [] ∷ [])) ≡ false
no_number_first = refl

class_names : has_distinct_classes (a_schema 1 (a_class "A" 0 [] ∷ a_class "A" 0 [] ∷ [])) ≡ false
class_names = refl

parents : has_earlier_parents (a_schema 1 (a_class "A" 1 [] ∷ [])) ≡ false
parents = refl

inherited_names : has_distinct_names (a_schema 3 (a_class "A" 0 (field 1 "a" i8 ∷ []) ∷ a_class "B" 1 (field 2 "a" text ∷ []) ∷ [])) ≡ false
unfolding schemas
inherited_names = refl

ids_of_two_classes : has_distinct_ids (a_schema 2 (a_class "A" 0 (field 1 "a" i8 ∷ []) ∷ a_class "B" 0 (past 1 "a" i8 ∷ []) ∷ [])) ≡ false
ids_of_two_classes = refl

id_not_drawn : has_drawn_ids (a_schema 2 (a_class "A" 0 (field 2 "a" i8 ∷ []) ∷ [])) ≡ false
id_not_drawn = refl

id_0 : has_drawn_ids (a_schema 2 (a_class "A" 0 (field 0 "a" i8 ∷ []) ∷ [])) ≡ false
id_0 = refl

past_before_current : has_ordered_fields (a_schema 3 (a_class "A" 0 (past 1 "a" i8 ∷ field 2 "b" i8 ∷ []) ∷ [])) ≡ false
past_before_current = refl

past_not_by_id : has_ordered_fields (a_schema 4 (a_class "A" 0 (field 3 "c" i8 ∷ past 2 "b" i8 ∷ past 1 "a" i8 ∷ []) ∷ [])) ≡ false
past_not_by_id = refl

current_in_any_order : has_ordered_fields (a_schema 4 (a_class "A" 0 (field 3 "c" i8 ∷ field 1 "a" i8 ∷ past 2 "b" i8 ∷ []) ∷ [])) ≡ true
current_in_any_order = refl

past_with_an_index : has_no_past_index (a_schema 2 (a_class "A" 0 (record { id = 1; name = []; kind = i8; current = false; indexed = true } ∷ []) ∷ [])) ≡ false
past_with_an_index = refl

array_with_an_index : has_no_array_index (a_schema 2 (a_class "A" 0 (indexed 1 "a" i8s ∷ []) ∷ [])) ≡ false
array_with_an_index = refl

-- a class with so many past fields
abbrev with_past : ℕ → Schema
with_past n = a_schema (n + 1) (record { name = []; parent = 0; fields = map (λ id. past id "a" i8) (range_with_len 1 n) } ∷ [])

own_with_past : has_few_own_fields (with_past 1000) ≡ true
own_with_past = refl

too_many_own_with_past : has_few_own_fields (with_past 1001) ≡ false
too_many_own_with_past = refl

classes : has_few_classes (a_schema 1 (replicate 65535 (a_class "A" 0 []))) ≡ true
classes = refl

too_many_classes : has_few_classes (a_schema 1 (replicate 65536 (a_class "A" 0 []))) ≡ false
too_many_classes = refl

-- ---- whether they differ

same_ones : differs sound sound ≡ false
unfolding schemas
same_ones = refl

-- by the order of the fields
in_order : differs (a_schema 3 (a_class "A" 0 (field 1 "a" i8 ∷ field 2 "b" i8 ∷ []) ∷ [])) (a_schema 3 (a_class "A" 0 (field 2 "b" i8 ∷ field 1 "a" i8 ∷ []) ∷ [])) ≡ true
unfolding schemas
in_order = refl

-- by a flag
in_an_index : differs (a_schema 2 (a_class "A" 0 (field 1 "a" i8 ∷ []) ∷ [])) (a_schema 2 (a_class "A" 0 (indexed 1 "a" i8 ∷ []) ∷ [])) ≡ true
unfolding schemas
in_an_index = refl

-- by a kind
in_a_kind : differs (a_schema 2 (a_class "A" 0 (field 1 "a" i8 ∷ []) ∷ [])) (a_schema 2 (a_class "A" 0 (field 1 "a" i8s ∷ []) ∷ [])) ≡ true
unfolding schemas
in_a_kind = refl

-- by the next field id alone
in_the_next_id : differs (a_schema 1 (a_class "A" 0 [] ∷ [])) (a_schema 2 (a_class "A" 0 [] ∷ [])) ≡ true
unfolding schemas
in_the_next_id = refl
