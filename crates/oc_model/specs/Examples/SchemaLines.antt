-- Short words for the examples on schemas: lines, and the schemas that they leave.
use Rattle.std.specs.Prelude.{ℕ, true, false, List, codes, fold, Some, None, Ok}
use Prim.Native.String.{String}
use Rattle.oc_model.specs.declared.value.Base.TheVariants as base
use Rattle.oc_model.specs.declared.value.Kind.{Kind}
use Rattle.oc_model.specs.declared.value.Kind.TheVariants as kind
use Rattle.oc_model.specs.declared.schema.FieldDef.{FieldDef}
use Rattle.oc_model.specs.declared.schema.ClassDef.{ClassDef}
use Rattle.oc_model.specs.declared.command.Decl.{Decl}
use Rattle.oc_model.specs.Refusals.{Checked, ◌>>=◌}
use Rattle.oc_model.specs.Schemas.{Schema, empty_schema}
use Rattle.oc_model.specs.SchemaRules.{keeps_rules}
use Rattle.oc_model.specs.SchemaEquality.{differs}
use Rattle.oc_model.specs.SchemaSteps.{Conversion, declared, class_renamed, field_renamed, index_set, conversion_of}

-- what an example computes with: it names this alone
unfoldable pub schemas : Unit {0}
unfolding declared class_renamed field_renamed index_set conversion_of keeps_rules differs
schemas = tt

-- ---- lines

-- what a line makes of a schema
abbrev pub Line : Type 0
Line = Schema → Checked Schema

-- the schema that lines leave of this one, or the first refusal
abbrev pub left_of : Schema → List Line → Checked Schema
left_of s lines = fold (λ (r : Checked Schema) (l : Line). r >>= l) (Ok s) lines

-- the schema that lines leave of the empty one
abbrev pub left_by : List Line → Checked Schema
left_by lines = left_of empty_schema lines

-- a kind of single values
abbrev pub i8 : Kind
i8 = kind.One base.I8

-- a kind of single values
abbrev pub i16 : Kind
i16 = kind.One base.I16

-- a kind of single values
abbrev pub i32 : Kind
i32 = kind.One base.I32

-- a kind of single values
abbrev pub text : Kind
text = kind.One base.Text

-- a kind of arrays
abbrev pub i8s : Kind
i8s = kind.Many base.I8

-- a field as a class line declares it
abbrev pub decl : String → Kind → Decl
decl name k = record { name = codes name; kind = k }

-- a class without a parent
abbrev pub class : String → List Decl → Line
class name ds s = declared s (codes name) None ds

-- a class with a parent
abbrev pub class_below : String → String → List Decl → Line
class_below name parent ds s = declared s (codes name) (Some (codes parent)) ds

-- the line that gives a class another name
abbrev pub rename_class : String → String → Line
rename_class name to s = class_renamed s (codes name) (codes to)

-- the line that gives a field another name
abbrev pub rename : String → String → String → Line
rename c name to s = field_renamed s (codes c) (codes name) (codes to)

-- the line that indexes a field
abbrev pub index : String → String → Line
index c name s = index_set s (codes c) (codes name) true

-- the line that takes a field's index away
abbrev pub unindex : String → String → Line
unindex c name s = index_set s (codes c) (codes name) false

-- what a conversion is asked to do after these lines
abbrev pub converted : List Line → String → String → Kind → Checked Conversion
converted lines c name from = left_by lines >>= λ s. conversion_of s (codes c) (codes name) from

-- ---- what they leave

-- a current field without an index
abbrev pub field : ℕ → String → Kind → FieldDef
field id name k = record { id = id; name = codes name; kind = k; current = true; indexed = false }

-- a current field with an index
abbrev pub indexed : ℕ → String → Kind → FieldDef
indexed id name k = record { id = id; name = codes name; kind = k; current = true; indexed = true }

-- a field that the class has no more
abbrev pub past : ℕ → String → Kind → FieldDef
past id name k = record { id = id; name = codes name; kind = k; current = false; indexed = false }

-- a class: its name, its parent's number and its fields
abbrev pub a_class : String → ℕ → List FieldDef → ClassDef
a_class name parent fields = record { name = codes name; parent = parent; fields = fields }

-- a schema: its next field id and its classes
abbrev pub a_schema : ℕ → List ClassDef → Schema
a_schema next classes = record { classes = classes; next_field = next }
