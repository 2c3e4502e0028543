-- Schemas: the classes by number, the fields of a class, and the limits.
use Rattle.std.specs.Prelude.{ℕ, zero, suc, ◌+◌, Bool, false, ◌||◌, ◌==◌, List, [], ◌∷◌, ◌++◌, filter, find, slice_get, Option, Some, None, if◌then◌else◌}
use Rattle.oc_model.specs.declared.schema.FieldDef.{FieldDef}
use Rattle.oc_model.specs.declared.schema.ClassDef.{ClassDef}
use Rattle.oc_model.specs.Maps.{Text, same}

-- the classes, class 1 first, and the id that the next new field gets
pub record Schema : Type 0 where
  pub classes : List ClassDef
  pub next_field : ℕ

-- no classes, and 1 as the next field id
abbrev pub empty_schema : Schema
empty_schema = record { classes = []; next_field = 1 }

-- the class of a number
abbrev pub class_at : Schema → ℕ → Option ClassDef
class_at s zero = None
class_at s (suc n) = slice_get s.classes n

-- the number of the first class of this name, where the first of the list has number n
abbrev pub number_from : ℕ → List ClassDef → Text → Option ℕ
number_from n [] name = None
number_from n (c ∷ cs) name = if same c.name name then Some n else number_from (n + 1) cs name

-- the number of the class of this name
abbrev pub class_named : Schema → Text → Option ℕ
class_named s name = number_from 1 s.classes name

-- the current ones of some fields
abbrev pub current : List FieldDef → List FieldDef
current fields = filter (λ f. f.current) fields

-- the current fields that a class declares itself
abbrev pub own_fields : Option ClassDef → List FieldDef
own_fields None = []
own_fields (Some c) = current c.fields

-- the parent's id, 0 where there is none
abbrev pub parent_of : Option ClassDef → ℕ
parent_of None = 0
parent_of (Some c) = c.parent

-- The current fields of the ancestors and then those of the class. A parent has a smaller number, so a class's own number bounds its ancestors.
abbrev pub fields_within : ℕ → Schema → ℕ → List FieldDef
fields_within zero s c = []
fields_within (suc fuel) s c = fields_within fuel s (parent_of (class_at s c)) ++ own_fields (class_at s c)

-- all current fields of an object of this class, in their order
unfoldable pub fields_of : Schema → ℕ → List FieldDef
fields_of s c = fields_within c s c

-- the one class is the other or below it, where so many steps up may be taken
abbrev pub below_within : ℕ → Schema → ℕ → ℕ → Bool
below_within zero s a b = false
below_within (suc fuel) s a b = a == b || below_within fuel s (parent_of (class_at s a)) b

-- class a is b or below it
unfoldable pub is_sub : Schema → ℕ → ℕ → Bool
is_sub s a b = below_within a s a b

-- the field of this name that an object of this class has
unfoldable pub field_named : Schema → ℕ → Text → Option FieldDef
unfolding fields_of
field_named s c name = find (λ f. same f.name name) (fields_of s c)
