-- Lines that rename, index and convert.
use Rattle.std.specs.Prelude.{◌≡◌, refl, [], ◌∷◌, Ok, Err}
use Rattle.oc_model.specs.declared.answer.Word.TheVariants as word
use Rattle.oc_model.specs.Schemas.{Schema}
use Rattle.oc_model.specs.Examples.SchemaLines.{schemas, left_of, left_by, i8, i32, text, i8s, decl, class, class_below, rename_class, rename, index, unindex, converted, field, indexed, past, a_class, a_schema}

-- A with the field a, B below it with b, and C below that with c
abbrev three : Schema
three = a_schema 4 (a_class "A" 0 (field 1 "a" i8 ∷ []) ∷ a_class "B" 1 (field 2 "b" i8s ∷ []) ∷ a_class "C" 2 (field 3 "c" text ∷ []) ∷ [])

-- ---- rename

class_to_another_name : left_of three (rename_class "B" "K" ∷ [])
    ≡ Ok (a_schema 4 (a_class "A" 0 (field 1 "a" i8 ∷ []) ∷ a_class "K" 1 (field 2 "b" i8s ∷ []) ∷ a_class "C" 2 (field 3 "c" text ∷ []) ∷ []))
unfolding schemas
class_to_another_name = refl

no_class : left_of three (rename_class "K" "A" ∷ []) ≡ Err word.Class
unfolding schemas
no_class = refl

-- also to its own name
class_to_a_class : left_of three (rename_class "B" "A" ∷ []) ≡ Err word.Exists
unfolding schemas
class_to_a_class = refl

class_to_itself : left_of three (rename_class "B" "B" ∷ []) ≡ Err word.Exists
unfolding schemas
class_to_itself = refl

field_to_another_name : left_of three (rename "B" "b" "k" ∷ [])
    ≡ Ok (a_schema 4 (a_class "A" 0 (field 1 "a" i8 ∷ []) ∷ a_class "B" 1 (field 2 "k" i8s ∷ []) ∷ a_class "C" 2 (field 3 "c" text ∷ []) ∷ []))
unfolding schemas
field_to_another_name = refl

-- It keeps its index.
indexed_field_to_another_name : left_by (class "A" (decl "a" i8 ∷ []) ∷ index "A" "a" ∷ rename "A" "a" "k" ∷ []) ≡ Ok (a_schema 2 (a_class "A" 0 (indexed 1 "k" i8 ∷ []) ∷ []))
unfolding schemas
indexed_field_to_another_name = refl

field_of_no_class : left_of three (rename "K" "a" "k" ∷ []) ≡ Err word.Class
unfolding schemas
field_of_no_class = refl

-- An inherited field is renamed where it is declared.
no_own_field : left_of three (rename "B" "a" "k" ∷ []) ≡ Err word.Field
unfolding schemas
no_own_field = refl

-- names of the class itself, of an ancestor and of a descendant
field_to_itself : left_of three (rename "B" "b" "b" ∷ []) ≡ Err word.Exists
unfolding schemas
field_to_itself = refl

field_to_one_above : left_of three (rename "C" "c" "a" ∷ []) ≡ Err word.Exists
unfolding schemas
field_to_one_above = refl

field_to_one_below : left_of three (rename "A" "a" "c" ∷ []) ≡ Err word.Exists
unfolding schemas
field_to_one_below = refl

-- A past field's name is free, and a past field can't be renamed.
field_to_a_past_one : left_by (class "K" (decl "v" i32 ∷ []) ∷ class "K" (decl "w" text ∷ []) ∷ rename "K" "w" "v" ∷ [])
    ≡ Ok (a_schema 3 (a_class "K" 0 (field 2 "v" text ∷ past 1 "v" i32 ∷ []) ∷ []))
unfolding schemas
field_to_a_past_one = refl

no_current_field : left_by (class "K" (decl "v" i32 ∷ []) ∷ class "K" [] ∷ rename "K" "v" "w" ∷ []) ≡ Err word.Field
unfolding schemas
no_current_field = refl

-- ---- index and unindex

-- Through a subclass the field itself is indexed, where it is declared.
through_a_subclass : left_of three (index "C" "a" ∷ [])
    ≡ Ok (a_schema 4 (a_class "A" 0 (indexed 1 "a" i8 ∷ []) ∷ a_class "B" 1 (field 2 "b" i8s ∷ []) ∷ a_class "C" 2 (field 3 "c" text ∷ []) ∷ []))
unfolding schemas
through_a_subclass = refl

index_again : left_of three (index "C" "a" ∷ index "B" "a" ∷ []) ≡ left_of three (index "A" "a" ∷ [])
unfolding schemas
index_again = refl

without_again : left_of three (index "A" "a" ∷ unindex "C" "a" ∷ unindex "C" "a" ∷ []) ≡ Ok three
unfolding schemas
without_again = refl

index_of_no_class : left_of three (index "K" "a" ∷ []) ≡ Err word.Class
unfolding schemas
index_of_no_class = refl

index_of_no_field : left_of three (index "A" "b" ∷ []) ≡ Err word.Field
unfolding schemas
index_of_no_field = refl

-- An array has no index, so there is none to take from it.
index_of_an_array : left_of three (index "B" "b" ∷ []) ≡ Err word.Kind
unfolding schemas
index_of_an_array = refl

unindex_of_an_array : left_of three (unindex "B" "b" ∷ []) ≡ Ok three
unfolding schemas
unindex_of_an_array = refl

-- ---- convert

from_a_number : converted (class "K" (decl "v" i32 ∷ []) ∷ class "K" (decl "v" text ∷ []) ∷ []) "K" "v" i32
    ≡ Ok (record { class = 1; past = 1; current = 2; from = i32; to = text })
unfolding schemas
from_a_number = refl

-- from a field that has come back
from_a_text : converted (class "K" [] ∷ class "S" (decl "t" text ∷ []) ∷ class "S" (decl "t" i32 ∷ []) ∷ class "S" (decl "t" text ∷ []) ∷ []) "S" "t" i32
    ≡ Ok (record { class = 2; past = 2; current = 1; from = i32; to = text })
unfolding schemas
from_a_text = refl

-- The kind of the past field is asked too.
no_past_field : converted (class "A" (decl "a" i8 ∷ []) ∷ []) "A" "a" text ≡ Err word.Past
unfolding schemas
no_past_field = refl

of_another_kind : converted (class "K" (decl "v" i32 ∷ []) ∷ class "K" (decl "v" text ∷ []) ∷ []) "K" "v" i8 ≡ Err word.Past
unfolding schemas
of_another_kind = refl

of_another_name : converted (class "K" (decl "v" i32 ∷ []) ∷ class "K" (decl "w" i32 ∷ []) ∷ []) "K" "w" i32 ≡ Err word.Past
unfolding schemas
of_another_name = refl

-- It comes back, and then nothing is past under its name.
come_back : converted (class "K" (decl "v" i32 ∷ []) ∷ class "K" (decl "w" i32 ∷ []) ∷ class "K" (decl "v" i32 ∷ []) ∷ []) "K" "v" i32 ≡ Err word.Past
unfolding schemas
come_back = refl

-- A field of the parent is no own field.
from_the_parent : converted (class "A" (decl "a" i32 ∷ []) ∷ class "A" (decl "a" text ∷ []) ∷ class_below "B" "A" [] ∷ []) "B" "a" i32 ≡ Err word.Field
unfolding schemas
from_the_parent = refl

conversion_in_no_class : converted [] "K" "v" i32 ≡ Err word.Class
unfolding schemas
conversion_in_no_class = refl
