-- The rules that every schema of a store keeps, and the limits.
use Rattle.std.specs.Prelude.{ℕ, Bool, true, false, not, ◌&&◌, ◌||◌, ◌==◌, nat_lt, nat_le, List, [], ◌∷◌, map, filter, flat_map, length, codes}
use Rattle.std.specs.List.{list_any, list_all, enumerate_from}
use Rattle.std.specs.Char.{is_ascii_alphabetic, is_ascii_alphanumeric}
use Rattle.oc_model.specs.declared.schema.FieldDef.{FieldDef}
use Rattle.oc_model.specs.declared.schema.ClassDef.{ClassDef}
use Rattle.oc_model.specs.Maps.{Text, same, is_in, are_distinct}
use Rattle.oc_model.specs.Kinds.{is_array}
use Rattle.oc_model.specs.Schemas.{Schema, fields_of, is_sub}

-- ---- all classes and all fields

-- the classes with their numbers
abbrev pub numbered : Schema → List (ℕ × ClassDef)
numbered s = enumerate_from 1 s.classes

-- the own fields of all classes, past ones too
abbrev pub all_fields : Schema → List FieldDef
all_fields s = flat_map (λ c. c.fields) s.classes

-- class a is an ancestor of class c
abbrev pub is_above : Schema → ℕ → ℕ → Bool
is_above s a c = not (a == c) && is_sub s c a

-- the ancestors of a class, with their numbers
abbrev pub ancestors : Schema → ℕ → List (ℕ × ClassDef)
ancestors s c = filter (λ e. is_above s e.0 c) (numbered s)

-- ---- names

-- the words that are no names
abbrev pub reserved_words : List Text
reserved_words =
    codes "true" ∷ codes "false" ∷ codes "null" ∷ codes "and" ∷ codes "or" ∷ codes "not" ∷ codes "where" ∷ codes "order" ∷ codes "asc" ∷ codes "desc" ∷ []

-- a letter or `_` comes first
abbrev pub begins_name : Text → Bool
begins_name [] = false
begins_name (c ∷ t) = is_ascii_alphabetic c || c == 95

-- Letters, digits and `_`, no digit first, 1 to 64 of them, and no reserved word.
abbrev pub is_name : Text → Bool
is_name t = begins_name t && list_all (λ c. is_ascii_alphanumeric c || c == 95) t && nat_le (length t) 64 && not (list_any (same t) reserved_words)

-- ---- the rules

-- classes and fields have proper names
abbrev pub has_names : Schema → Bool
has_names s = list_all (λ c. is_name c.name) s.classes && list_all (λ f. is_name f.name) (all_fields s)

-- no two classes have one name
abbrev pub has_distinct_classes : Schema → Bool
has_distinct_classes s = are_distinct (map (λ c. c.name) s.classes)

-- a parent's number is smaller than the class's, or 0 for none
abbrev pub has_earlier_parents : Schema → Bool
has_earlier_parents s = list_all (λ e. nat_lt (e.1).parent e.0) (numbered s)

-- no two current fields of a class, its own or an ancestor's, have one name
abbrev pub has_distinct_names : Schema → Bool
has_distinct_names s = list_all (λ e. are_distinct (map (λ f. f.name) (fields_of s e.0))) (numbered s)

-- no number comes twice
abbrev pub are_apart : List ℕ → Bool
are_apart [] = true
are_apart (n ∷ ns) = not (is_in ns n) && are_apart ns

-- no two fields have one id
abbrev pub has_distinct_ids : Schema → Bool
has_distinct_ids s = are_apart (map (λ f. f.id) (all_fields s))

-- The ids are drawn upwards from 1: each is below the next.
abbrev pub has_drawn_ids : Schema → Bool
has_drawn_ids s = nat_le 1 s.next_field && list_all (λ f. nat_le 1 f.id && nat_lt f.id s.next_field) (all_fields s)

-- Behind a current field stands any field, and behind a past one a past one with a greater id.
abbrev pub may_follow : FieldDef → FieldDef → Bool
may_follow f g = f.current || not g.current && nat_lt f.id g.id

-- the current fields first, and then the past ones by id
abbrev pub are_in_order : List FieldDef → Bool
are_in_order [] = true
are_in_order (f ∷ []) = true
are_in_order (f ∷ g ∷ fields) = may_follow f g && are_in_order (g ∷ fields)

-- each class has its fields in order
abbrev pub has_ordered_fields : Schema → Bool
has_ordered_fields s = list_all (λ c. are_in_order c.fields) s.classes

-- an indexed field is current
abbrev pub has_no_past_index : Schema → Bool
has_no_past_index s = list_all (λ f. f.current || not f.indexed) (all_fields s)

-- an indexed field is no array
abbrev pub has_no_array_index : Schema → Bool
has_no_array_index s = list_all (λ f. not (f.indexed && is_array f.kind)) (all_fields s)

-- ---- the limits

-- 65,535 classes
abbrev pub has_few_classes : Schema → Bool
has_few_classes s = nat_le (length s.classes) 65535

-- 32 ancestors of a class
abbrev pub has_few_ancestors : Schema → Bool
has_few_ancestors s = list_all (λ e. nat_le (length (ancestors s e.0)) 32) (numbered s)

-- 255 current fields of a class, with those of its ancestors
abbrev pub has_few_fields : Schema → Bool
has_few_fields s = list_all (λ e. nat_le (length (fields_of s e.0)) 255) (numbered s)

-- 1,000 own fields of a class, with past ones
abbrev pub has_few_own_fields : Schema → Bool
has_few_own_fields s = list_all (λ c. nat_le (length c.fields) 1000) s.classes

-- 4,294,967,294 ids
abbrev pub has_few_ids : Schema → Bool
has_few_ids s = nat_le s.next_field 4294967295

-- no limit is passed
unfoldable pub is_within_limits : Schema → Bool
unfolding fields_of is_sub
is_within_limits s = has_few_classes s && has_few_ancestors s && has_few_fields s && has_few_own_fields s && has_few_ids s

-- all rules, the limits among them
unfoldable pub keeps_rules : Schema → Bool
unfolding fields_of is_sub is_within_limits
keeps_rules s =
    has_names s && has_distinct_classes s && has_earlier_parents s && has_distinct_names s && has_distinct_ids s && has_drawn_ids s && has_ordered_fields s && has_no_past_index s
    && has_no_array_index s && is_within_limits s
