-- Lines that declare a class, a new one or one that is there.
use Rattle.std.specs.Prelude.{◌≡◌, refl, ℕ, ◌+◌, true, List, [], ◌∷◌, ◌++◌, map, codes, Some, None, Ok, Err, is_ok}
use Rattle.std.specs.List.{range_with_len}
use Rattle.oc_model.specs.declared.command.Decl.{Decl}
use Rattle.oc_model.specs.declared.answer.Word.TheVariants as word
use Rattle.oc_model.specs.Schemas.{Schema}
use Rattle.oc_model.specs.SchemaSteps.{declared}
use Rattle.oc_model.specs.Examples.SchemaLines.{schemas, Line, left_of, left_by, i8, i16, i32, text, i8s, decl, class, class_below, index, field, indexed, past, a_class, a_schema}

-- ---- a class that is new

-- Classes get numbers, and fields ids, in the order of the text.
two_classes : left_by (class "K" (decl "v" i32 ∷ decl "w" text ∷ []) ∷ class_below "L" "K" (decl "x" i8s ∷ []) ∷ [])
    ≡ Ok (a_schema 4 (a_class "K" 0 (field 1 "v" i32 ∷ field 2 "w" text ∷ []) ∷ a_class "L" 1 (field 3 "x" i8s ∷ []) ∷ []))
unfolding schemas
two_classes = refl

-- one that is no class
no_parent : left_by (class_below "A" "X" [] ∷ []) ≡ Err word.Class
unfolding schemas
no_parent = refl

-- A class that isn't there yet is no parent of itself.
own_parent : left_by (class_below "A" "A" [] ∷ []) ≡ Err word.Class
unfolding schemas
own_parent = refl

given_twice : left_by (class "A" (decl "a" i8 ∷ decl "a" i16 ∷ []) ∷ []) ≡ Err word.Exists
unfolding schemas
given_twice = refl

-- A name of the parent's, also where its kind is another one, and of the parent's parent.
in_the_parent : left_by (class "A" (decl "a" i8 ∷ []) ∷ class_below "B" "A" (decl "a" i32 ∷ []) ∷ []) ≡ Err word.Exists
unfolding schemas
in_the_parent = refl

in_the_grandparent : left_by (class "A" (decl "a" i8 ∷ []) ∷ class_below "B" "A" [] ∷ class_below "C" "B" (decl "a" i32 ∷ []) ∷ []) ≡ Err word.Exists
unfolding schemas
in_the_grandparent = refl

-- Two classes that aren't below one another may have fields of one name.
beside : left_by (class "A" (decl "a" i8 ∷ []) ∷ class "B" (decl "a" i8 ∷ []) ∷ [])
    ≡ Ok (a_schema 3 (a_class "A" 0 (field 1 "a" i8 ∷ []) ∷ a_class "B" 0 (field 2 "a" i8 ∷ []) ∷ []))
unfolding schemas
beside = refl

-- ---- a class that is there

-- Its parent can't be changed, and the stated one has to be a class.
to_itself : left_by (class "A" (decl "a" i8 ∷ []) ∷ class_below "A" "A" [] ∷ []) ≡ Err word.Parent
unfolding schemas
to_itself = refl

to_no_class : left_by (class "A" [] ∷ class_below "A" "X" (decl "a" i8 ∷ decl "a" i8 ∷ []) ∷ []) ≡ Err word.Class
unfolding schemas
to_no_class = refl

without_its_parent : left_by (class "A" [] ∷ class_below "B" "A" [] ∷ class "B" (decl "a" i8 ∷ decl "a" i8 ∷ []) ∷ []) ≡ Err word.Parent
unfolding schemas
without_its_parent = refl

with_its_parent : left_by (class "A" [] ∷ class_below "B" "A" [] ∷ class_below "B" "A" (decl "a" i8 ∷ []) ∷ [])
    ≡ Ok (a_schema 2 (a_class "A" 0 [] ∷ a_class "B" 1 (field 1 "a" i8 ∷ []) ∷ []))
unfolding schemas
with_its_parent = refl

-- names of an ancestor and of a descendant
taken_above : left_by (class "A" (decl "a" i8 ∷ []) ∷ class_below "B" "A" [] ∷ class_below "B" "A" (decl "a" i8 ∷ []) ∷ []) ≡ Err word.Exists
unfolding schemas
taken_above = refl

taken_below : left_by (class "A" [] ∷ class_below "B" "A" [] ∷ class_below "C" "B" (decl "c" i8 ∷ []) ∷ class "A" (decl "c" i8 ∷ []) ∷ []) ≡ Err word.Exists
unfolding schemas
taken_below = refl

-- A past field's name is free.
freed_below : left_by (class "A" [] ∷ class_below "B" "A" (decl "b" i8 ∷ []) ∷ class_below "B" "A" [] ∷ class "A" (decl "b" i8 ∷ []) ∷ [])
    ≡ Ok (a_schema 3 (a_class "A" 0 (field 2 "b" i8 ∷ []) ∷ a_class "B" 1 (past 1 "b" i8 ∷ []) ∷ []))
unfolding schemas
freed_below = refl

-- ---- which fields it has then

-- The same name and kind: the same id, in the order of the text, and the index stays.
kept : left_by (class "K" (decl "v" i32 ∷ decl "w" text ∷ []) ∷ index "K" "v" ∷ class "K" (decl "w" text ∷ decl "x" i8 ∷ decl "v" i32 ∷ []) ∷ [])
    ≡ Ok (a_schema 4 (a_class "K" 0 (field 2 "w" text ∷ field 3 "x" i8 ∷ indexed 1 "v" i32 ∷ []) ∷ []))
unfolding schemas
kept = refl

-- Another kind: a new id, and the old field is past and has no index.
of_another_kind : left_by (class "K" (decl "v" i32 ∷ []) ∷ index "K" "v" ∷ class "K" (decl "v" text ∷ []) ∷ [])
    ≡ Ok (a_schema 3 (a_class "K" 0 (field 2 "v" text ∷ past 1 "v" i32 ∷ []) ∷ []))
unfolding schemas
of_another_kind = refl

-- A field that isn't stated is past, and comes back without an index.
come_back : left_by (class "K" (decl "v" i32 ∷ []) ∷ index "K" "v" ∷ class "K" (decl "w" i32 ∷ []) ∷ class "K" (decl "v" i32 ∷ []) ∷ [])
    ≡ Ok (a_schema 3 (a_class "K" 0 (field 1 "v" i32 ∷ past 2 "w" i32 ∷ []) ∷ []))
unfolding schemas
come_back = refl

-- The past ones stand by id, however they came there.
past_by_id : left_by (class "K" (decl "a" i8 ∷ decl "b" i8 ∷ decl "c" i8 ∷ []) ∷ class "K" (decl "c" i8 ∷ decl "a" i8 ∷ []) ∷ class "K" [] ∷ [])
    ≡ Ok (a_schema 4 (a_class "K" 0 (past 1 "a" i8 ∷ past 2 "b" i8 ∷ past 3 "c" i8 ∷ []) ∷ []))
unfolding schemas
past_by_id = refl

-- Of two past fields of this name and kind the one with the greater id comes back. (One that was renamed made place for the other.)
two_past : Schema
two_past = a_schema 4 (a_class "K" 0 (field 2 "w" text ∷ past 1 "v" i32 ∷ past 3 "v" i32 ∷ []) ∷ [])

greatest_comes_back : left_of two_past (class "K" (decl "v" i32 ∷ []) ∷ [])
    ≡ Ok (a_schema 4 (a_class "K" 0 (field 3 "v" i32 ∷ past 1 "v" i32 ∷ past 2 "w" text ∷ []) ∷ []))
unfolding schemas two_past
greatest_comes_back = refl

-- The same declaration again changes nothing.
again : left_by (class "K" (decl "v" i32 ∷ decl "w" text ∷ []) ∷ class "K" (decl "v" i32 ∷ decl "w" text ∷ []) ∷ [])
    ≡ left_by (class "K" (decl "v" i32 ∷ decl "w" text ∷ []) ∷ [])
unfolding schemas
again = refl

-- ---- the limits

-- so many fields of one kind, with distinct names, the first of them this one
abbrev fields : ℕ → ℕ → List Decl
fields first n = map (λ k. record { name = k ∷ []; kind = i8 }) (range_with_len first n)

-- the line that declares the class with these fields
abbrev class_of : List Decl → Line
class_of ds s = declared s (codes "A") None ds

-- the line that declares a class with these fields below another
abbrev class_under : ℕ → List Decl → Line
class_under n ds s = declared s (codes "B") (Some (n ∷ [])) ds

-- so many classes, each the parent of the next
abbrev chain : ℕ → Schema
chain n = a_schema 1 (map (λ k. record { name = (k + 1) ∷ []; parent = k; fields = [] }) (range_with_len 0 n))

-- 32 ancestors
ancestors : is_ok (left_of (chain 32) (class_under 32 [] ∷ [])) ≡ true
unfolding schemas
ancestors = refl

too_many_ancestors : left_of (chain 33) (class_under 33 [] ∷ []) ≡ Err word.Size
unfolding schemas
too_many_ancestors = refl

-- 255 fields, those of the ancestors included
own_fields : is_ok (left_by (class_of (fields 1 255) ∷ [])) ≡ true
unfolding schemas
own_fields = refl

too_many_fields : left_by (class_of (fields 1 256) ∷ []) ≡ Err word.Size
unfolding schemas
too_many_fields = refl

-- A class that is there is judged with its descendants.
fields_below : is_ok (left_by (class_of [] ∷ class_under 65 (fields 1 200) ∷ class_of (fields 1000 55) ∷ [])) ≡ true
unfolding schemas
fields_below = refl

too_many_below : left_by (class_of [] ∷ class_under 65 (fields 1 200) ∷ class_of (fields 1000 56) ∷ []) ≡ Err word.Size
unfolding schemas
too_many_below = refl

-- 4,294,967,294 ids
last_ids : left_of (a_schema 4294967293 []) (class "K" (decl "v" i8 ∷ decl "w" i8 ∷ []) ∷ [])
    ≡ Ok (a_schema 4294967295 (a_class "K" 0 (field 4294967293 "v" i8 ∷ field 4294967294 "w" i8 ∷ []) ∷ []))
unfolding schemas
last_ids = refl

no_id_left : left_of (a_schema 4294967294 []) (class "K" (decl "v" i8 ∷ decl "w" i8 ∷ []) ∷ []) ≡ Err word.Size
unfolding schemas
no_id_left = refl

-- A field that comes back needs no id.
no_id_needed : left_of (a_schema 4294967295 (a_class "K" 0 (past 1 "v" i8 ∷ []) ∷ [])) (class "K" (decl "v" i8 ∷ []) ∷ [])
    ≡ Ok (a_schema 4294967295 (a_class "K" 0 (field 1 "v" i8 ∷ []) ∷ []))
unfolding schemas
no_id_needed = refl

-- Of two refusals the limits are the last.
named_twice_and_too_many : left_by (class_of (fields 1 256 ++ fields 1 1) ∷ []) ≡ Err word.Exists
unfolding schemas
named_twice_and_too_many = refl
