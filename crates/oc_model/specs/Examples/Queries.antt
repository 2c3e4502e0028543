-- What queries give over small stores.
use Rattle.std.specs.Prelude.{◌≡◌, refl, ℕ, true, false, pos, negsuc, List, [], ◌∷◌, filter, map, codes, Some, None}
use Rattle.oc_model.specs.declared.value.Base.TheVariants as base
use Rattle.oc_model.specs.declared.value.Kind.{Kind}
use Rattle.oc_model.specs.declared.value.Kind.TheVariants as kind
use Rattle.oc_model.specs.declared.value.Atom.{Atom}
use Rattle.oc_model.specs.declared.value.Atom.TheVariants as atom
use Rattle.oc_model.specs.declared.value.Rec.{Rec}
use Rattle.oc_model.specs.declared.schema.FieldDef.{FieldDef}
use Rattle.oc_model.specs.declared.query.Op.{Op}
use Rattle.oc_model.specs.declared.query.Op.TheVariants as op
use Rattle.oc_model.specs.declared.query.Expr.TheVariants.{All, Not, And, Or, Test, Null, Is, Inside}
use Rattle.oc_model.specs.declared.query.Criterion.{Criterion}
use Rattle.oc_model.specs.Maps.{Text, keys}
use Rattle.oc_model.specs.Stores.{Store}
use Rattle.oc_model.specs.Queries.{values, is_of, passes, answer}
use Rattle.oc_model.specs.Examples.Building.{field, class, object, store, whole, truth, text, no_text, ref, array, no_array}

-- ---- words for queries

-- by the path, ascending
abbrev asc : List Text → Criterion
asc path = record { path = path; ascending = true }

-- by the path, descending
abbrev desc : List Text → Criterion
desc path = record { path = path; ascending = false }

-- a whole number
abbrev number : ℕ → Atom
number n = atom.Int (pos n)

-- a text
abbrev literal : Text → Atom
literal t = atom.Text (Some t)

-- a path of one name
abbrev at_field : Text → List Text
at_field name = name ∷ []

-- ---- two numbers, an order by both

-- two numbers
abbrev pair_fields : List FieldDef
pair_fields = field 1 (codes "a") (kind.One base.I32) ∷ field 2 (codes "b") (kind.One base.I32) ∷ []

-- an object of two numbers
abbrev pair : ℕ → ℕ → Rec
pair a b = object 1 pair_fields (whole (pos a) ∷ whole (pos b) ∷ [])

-- four objects of two numbers
abbrev pairs : Store
pairs = store (class 0 (codes "T") pair_fields ∷ []) (pair 1 3 ∷ pair 2 2 ∷ pair 1 2 ∷ pair 2 3 ∷ [])

-- ascending by a, and descending by b where a is the same
by_both : answer pairs 1 All (asc (at_field (codes "a")) ∷ desc (at_field (codes "b")) ∷ []) ≡ 1 ∷ 3 ∷ 4 ∷ 2 ∷ []
unfolding answer
by_both = refl

-- Where the keys are the same, the smaller number comes first, also in descending order.
ties : answer pairs 1 All (desc (at_field (codes "a")) ∷ []) ≡ 2 ∷ 4 ∷ 1 ∷ 3 ∷ []
unfolding answer
ties = refl

-- Without expression and order they are the objects of the class by number.
plain : answer pairs 1 All [] ≡ 1 ∷ 2 ∷ 3 ∷ 4 ∷ []
unfolding answer
plain = refl

plain_objects : answer pairs 1 All [] ≡ filter (is_of pairs 1) (keys pairs.records)
unfolding answer
plain_objects = refl

-- A number meets a test with any whole number, whether or not the field could hold it.
wide : answer pairs 1 (Test (at_field (codes "a")) op.Less (atom.Int (pos 170141183460469231731687303715884105727))) [] ≡ 1 ∷ 2 ∷ 3 ∷ 4 ∷ []
unfolding answer
wide = refl

-- `and` and `or`, and a field that no object of the class has
connected : answer pairs 1 (Or (And (Test (at_field (codes "a")) op.Equal (number 1) ∷ Test (at_field (codes "b")) op.AtLeast (number 3) ∷ []) ∷ Test (at_field (codes "a")) op.Greater (number 1) ∷ [])) [] ≡ 1 ∷ 2 ∷ 4 ∷ []
unfolding answer
connected = refl

no_field : answer pairs 1 (Null (at_field (codes "c"))) [] ≡ []
unfolding answer
no_field = refl

not_no_field : answer pairs 1 (Not (Null (at_field (codes "c")))) [] ≡ 1 ∷ 2 ∷ 3 ∷ 4 ∷ []
unfolding answer
not_no_field = refl

empty_and : answer pairs 1 (And []) [] ≡ 1 ∷ 2 ∷ 3 ∷ 4 ∷ []
unfolding answer
empty_and = refl

empty_or : answer pairs 1 (Or []) [] ≡ []
unfolding answer
empty_or = refl

-- ---- texts, one of them null

-- a text and a number
abbrev person_fields : List FieldDef
person_fields = field 1 (codes "name") (kind.One base.Text) ∷ field 2 (codes "n") (kind.One base.I32) ∷ []

-- two objects, the second with a null text
abbrev persons : Store
persons = store (class 0 (codes "P") person_fields ∷ []) (object 1 person_fields (text (codes "Barrichello") ∷ whole (pos 1) ∷ []) ∷ object 1 person_fields (no_text ∷ whole (pos 2) ∷ []) ∷ [])

-- the objects of the small class whose name passes the test
abbrev named : Op → Text → List ℕ
named o part = answer persons 1 (Test (at_field (codes "name")) o (literal part)) []

like_barr : named op.Like (codes "barr") ≡ 1 ∷ []
unfolding answer
like_barr = refl

like_within : named op.Like (codes "RICHELLO") ≡ 1 ∷ []
unfolding answer
like_within = refl

contains_barr : named op.Contains (codes "barr") ≡ []
unfolding answer
contains_barr = refl

contains_chell : named op.Contains (codes "chell") ≡ 1 ∷ []
unfolding answer
contains_chell = refl

starts_barr : named op.Starts (codes "Barr") ≡ 1 ∷ []
unfolding answer
starts_barr = refl

starts_rich : named op.Starts (codes "rich") ≡ []
unfolding answer
starts_rich = refl

ends_chello : named op.Ends (codes "chello") ≡ 1 ∷ []
unfolding answer
ends_chello = refl

ends_barr : named op.Ends (codes "Barr") ≡ []
unfolding answer
ends_barr = refl

-- A part that is longer than the text is no part of it. The empty text is a part of every text, and of no null.
longer : named op.Ends (codes "Rubens Barrichello") ≡ []
unfolding answer
longer = refl

nothing_within : named op.Contains [] ≡ 1 ∷ []
unfolding answer
nothing_within = refl

-- Null is neither less nor greater than a text. What doesn't meet a test meets its complement.
less_than_c : named op.Less (codes "C") ≡ 1 ∷ []
unfolding answer
less_than_c = refl

not_less_than_c : answer persons 1 (Not (Test (at_field (codes "name")) op.Less (literal (codes "C")))) [] ≡ 2 ∷ []
unfolding answer
not_less_than_c = refl

-- A text is no number, and a number no text.
number_as_text : named op.Equal (codes "1") ≡ []
unfolding answer
number_as_text = refl

text_as_number : answer persons 1 (Test (at_field (codes "name")) op.AtLeast (number 0)) [] ≡ []
unfolding answer
text_as_number = refl

-- Null comes first.
by_name : answer persons 1 All (asc (at_field (codes "name")) ∷ []) ≡ 2 ∷ 1 ∷ []
unfolding answer
by_name = refl

by_name_down : answer persons 1 All (desc (at_field (codes "name")) ∷ []) ≡ 1 ∷ 2 ∷ []
unfolding answer
by_name_down = refl

-- ---- arrays

-- an array of numbers and one of texts
abbrev list_fields : List FieldDef
list_fields = field 1 (codes "xs") (kind.Many base.I32) ∷ field 2 (codes "ts") (kind.Many base.Text) ∷ []

-- three objects, with arrays that are filled, empty and null
abbrev lists : Store
lists = store (class 0 (codes "R") list_fields ∷ []) (object 1 list_fields (array (number 1 ∷ number 2 ∷ number 3 ∷ []) ∷ array (atom.Text None ∷ literal (codes "a") ∷ []) ∷ []) ∷ object 1 list_fields (array [] ∷ no_array ∷ []) ∷ object 1 list_fields (no_array ∷ no_array ∷ []) ∷ [])

-- Some element meets the test.
some_element : answer lists 1 (Test (at_field (codes "xs")) op.Equal (number 2)) [] ≡ 1 ∷ []
unfolding answer
some_element = refl

-- A null array has the value null, and an empty one has no value.
null_array : answer lists 1 (Null (at_field (codes "xs"))) [] ≡ 3 ∷ []
unfolding answer
null_array = refl

-- No element is greater: the complement of some element being greater.
none_greater : answer lists 1 (Not (Test (at_field (codes "xs")) op.Greater (number 2))) [] ≡ 2 ∷ 3 ∷ []
unfolding answer
none_greater = refl

-- a null element, and null arrays
null_elements : answer lists 1 (Null (at_field (codes "ts"))) [] ≡ 1 ∷ 2 ∷ 3 ∷ []
unfolding answer
null_elements = refl

-- The first element counts in an order. An empty array counts as null.
by_first_element : answer lists 1 All (desc (at_field (codes "xs")) ∷ []) ≡ 1 ∷ 2 ∷ 3 ∷ []
unfolding answer
by_first_element = refl

first_element_last : answer lists 1 All (asc (at_field (codes "xs")) ∷ []) ≡ 2 ∷ 3 ∷ 1 ∷ []
unfolding answer
first_element_last = refl

-- ---- references

-- the fields of a pilot
abbrev pilot_fields : List FieldDef
pilot_fields = field 1 (codes "name") (kind.One base.Text) ∷ field 2 (codes "points") (kind.One base.I32) ∷ []

-- a pilot who is a driver too has a car besides
abbrev driver_fields : List FieldDef
driver_fields = field 3 (codes "car") (kind.One base.Ref) ∷ []

-- the fields of a car
abbrev car_fields : List FieldDef
car_fields = field 4 (codes "model") (kind.One base.Text) ∷ field 5 (codes "pilot") (kind.One base.Ref) ∷ field 6 (codes "others") (kind.Many base.Ref) ∷ []

-- Pilots are class 1, drivers class 2 below it, cars class 3. The fourth car names an object that the store hasn't.
abbrev cars : Store
cars =
    store
    (class 0 (codes "Pilot") pilot_fields ∷ class 1 (codes "Driver") driver_fields ∷ class 0 (codes "Car") car_fields ∷ [])
    (
    object 1 pilot_fields (text (codes "Rubens Barrichello") ∷ whole (pos 99) ∷ [])
    ∷ object 2 (field 1 (codes "name") (kind.One base.Text) ∷ field 3 (codes "car") (kind.One base.Ref) ∷ []) (text (codes "Michael") ∷ ref 3 ∷ [])
    ∷ object 3 car_fields (text (codes "BMW") ∷ ref 1 ∷ no_array ∷ [])
    ∷ object 3 car_fields (text (codes "Ferrari") ∷ ref 2 ∷ array (atom.Ref 1 ∷ atom.Ref 0 ∷ atom.Ref 9 ∷ atom.Ref 2 ∷ []) ∷ [])
    ∷ object 3 car_fields (text (codes "Lola") ∷ ref 0 ∷ array [] ∷ [])
    ∷ object 3 car_fields (text (codes "Jordan") ∷ ref 9 ∷ no_array ∷ [])
    ∷ []
    )

-- the path to the name of a car's pilot
abbrev pilot_name : List Text
pilot_name = codes "pilot" ∷ codes "name" ∷ []

-- the names of the pilots of cars
a_name : values cars pilot_name 3 ≡ literal (codes "Rubens Barrichello") ∷ []
unfolding values
a_name = refl

-- Null and a number that the store hasn't lead nowhere.
no_pilot : values cars pilot_name 5 ≡ []
unfolding values
no_pilot = refl

lost_pilot : values cars pilot_name 6 ≡ []
unfolding values
lost_pilot = refl

-- The elements of an array lead on one by one.
other_names : values cars (codes "others" ∷ codes "name" ∷ []) 4 ≡ literal (codes "Rubens Barrichello") ∷ literal (codes "Michael") ∷ []
unfolding values
other_names = refl

-- Read as values, what the store hasn't is null.
others : values cars (at_field (codes "others")) 4 ≡ map (λ n. atom.Ref n) (1 ∷ 0 ∷ 0 ∷ 2 ∷ [])
unfolding values
others = refl

-- An object without an entry has the default.
no_entry : values cars (at_field (codes "points")) 2 ≡ number 0 ∷ []
unfolding values
no_entry = refl

-- A text names nothing, so a path can't lead through it.
through_a_text : values cars (codes "model" ∷ codes "name" ∷ []) 3 ≡ []
unfolding values
through_a_text = refl

-- The number of an object that the store hasn't has no values.
of_nothing : values cars (at_field (codes "name")) 9 ≡ []
unfolding values
of_nothing = refl

starts_rubens : answer cars 3 (Test pilot_name op.Starts (literal (codes "Rubens"))) [] ≡ 3 ∷ []
unfolding answer
starts_rubens = refl

is_1 : answer cars 3 (Is (at_field (codes "pilot")) 1) [] ≡ 3 ∷ []
unfolding answer
is_1 = refl

-- No reference is to a number that the store hasn't, and none to 0.
is_9 : answer cars 3 (Is (at_field (codes "others")) 9) [] ≡ []
unfolding answer
is_9 = refl

is_0 : answer cars 3 (Is (at_field (codes "others")) 0) [] ≡ []
unfolding answer
is_0 = refl

without_pilot : answer cars 3 (Null (at_field (codes "pilot"))) [] ≡ 5 ∷ 6 ∷ []
unfolding answer
without_pilot = refl

-- A class's objects are those of its subclasses too. A field of the subclass alone gives nothing elsewhere.
pilots : answer cars 1 All (asc (at_field (codes "name")) ∷ []) ≡ 2 ∷ 1 ∷ []
unfolding answer
pilots = refl

drivers : answer cars 2 All [] ≡ 2 ∷ []
unfolding answer
drivers = refl

with_a_car : answer cars 1 (Test (codes "car" ∷ codes "model" ∷ []) op.Equal (literal (codes "BMW"))) [] ≡ 2 ∷ []
unfolding answer
with_a_car = refl

-- a reference to an object of the class, or of one below it, that meets an expression
inside_pilots : answer cars 3 (Inside (at_field (codes "pilot")) 1 (Test (at_field (codes "points")) op.Less (number 100))) [] ≡ 3 ∷ 4 ∷ []
unfolding answer
inside_pilots = refl

inside_drivers : answer cars 3 (Inside (at_field (codes "pilot")) 2 All) [] ≡ 4 ∷ []
unfolding answer
inside_drivers = refl

inside_twice : answer cars 2 (Inside (at_field (codes "car")) 3 (Inside (at_field (codes "pilot")) 1 (Not (Is (at_field (codes "car")) 3)))) [] ≡ 2 ∷ []
unfolding answer
inside_twice = refl

-- References come in order of number, and null before them.
by_pilot : answer cars 3 All (asc (at_field (codes "pilot")) ∷ []) ≡ 5 ∷ 6 ∷ 3 ∷ 4 ∷ []
unfolding answer
by_pilot = refl

-- ---- one value and a literal

-- false is less than true
false_below : passes op.Less (atom.Bool true) (atom.Bool false) ≡ true
false_below = refl

true_not_below : passes op.Less (atom.Bool true) (atom.Bool true) ≡ false
true_not_below = refl

negative : passes op.Greater (atom.Int (negsuc 4)) (atom.Int (negsuc 3)) ≡ true
negative = refl

-- Texts are compared byte by byte: capital letters come first, and a text before a longer one that begins with it.
capitals_first : passes op.Less (literal (codes "a")) (literal (codes "Z")) ≡ true
capitals_first = refl

shorter_first : passes op.Less (literal (codes "abc")) (literal (codes "ab")) ≡ true
shorter_first = refl

-- Null is equal to null, of texts and of references alike, and is neither at most null nor at least.
null_is_null : passes op.Equal (atom.Text None) (atom.Ref 0) ≡ true
null_is_null = refl

null_at_most : passes op.AtMost (atom.Text None) (atom.Text None) ≡ false
null_at_most = refl

-- References have no order in a test.
no_reference_below : passes op.Less (atom.Ref 5) (atom.Ref 3) ≡ false
no_reference_below = refl

false_is_no_number : passes op.Equal (number 0) (atom.Bool false) ≡ false
false_is_no_number = refl

-- Only the case of ASCII letters doesn't count: É isn't é.
accents : passes op.Like (literal (195 ∷ 137 ∷ [])) (literal (195 ∷ 169 ∷ [])) ≡ false
accents = refl

-- ---- keys of several sorts

-- classes whose one field v has several kinds, and holders of a reference to one of them
abbrev valued : Kind → List FieldDef
valued k = field 1 (codes "v") k ∷ []

-- a single reference
abbrev holder : List FieldDef
holder = field 2 (codes "r") (kind.One base.Ref) ∷ []

-- objects of unlike classes, and one that refers to each
abbrev mixed : Store
mixed =
    store
    (
    class 0 (codes "Texts") (valued (kind.One base.Text))
    ∷ class 0 (codes "Numbers") (valued (kind.One base.I8))
    ∷ class 0 (codes "Truths") (valued (kind.One base.Bool))
    ∷ class 0 (codes "Refs") (valued (kind.One base.Ref))
    ∷ class 0 (codes "Holder") holder
    ∷ []
    )
    (
    object 4 (valued (kind.One base.Ref)) (ref 1 ∷ [])
    ∷ object 1 (valued (kind.One base.Text)) (text (codes "0") ∷ [])
    ∷ object 2 (valued (kind.One base.I8)) (whole (negsuc 0) ∷ [])
    ∷ object 3 (valued (kind.One base.Bool)) (truth true ∷ [])
    ∷ object 1 (valued (kind.One base.Text)) (no_text ∷ [])
    ∷ map (λ n. object 5 holder (ref n ∷ [])) (1 ∷ 2 ∷ 3 ∷ 4 ∷ 5 ∷ 0 ∷ [])
    )

-- Null comes first, and no value counts as null; then truth values, numbers, texts and references.
by_sort : answer mixed 5 All (asc (codes "r" ∷ codes "v" ∷ []) ∷ []) ≡ 10 ∷ 11 ∷ 9 ∷ 8 ∷ 7 ∷ 6 ∷ []
unfolding answer
by_sort = refl

by_sort_down : answer mixed 5 All (desc (codes "r" ∷ codes "v" ∷ []) ∷ []) ≡ 6 ∷ 7 ∷ 8 ∷ 9 ∷ 10 ∷ 11 ∷ []
unfolding answer
by_sort_down = refl
