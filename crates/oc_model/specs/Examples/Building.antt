-- Small stores, written out.
use Rattle.std.specs.Prelude.{ℕ, ◌+◌, Bool, true, false, ℤ, List, [], ◌∷◌, length, Some, None}
use Rattle.oc_model.specs.declared.value.Kind.{Kind}
use Rattle.oc_model.specs.declared.value.Atom.{Atom}
use Rattle.oc_model.specs.declared.value.Atom.TheVariants as atom
use Rattle.oc_model.specs.declared.value.Value.{Value}
use Rattle.oc_model.specs.declared.value.Value.TheVariants as value
use Rattle.oc_model.specs.declared.value.Entry.{Entry}
use Rattle.oc_model.specs.declared.value.Rec.{Rec}
use Rattle.oc_model.specs.declared.schema.FieldDef.{FieldDef}
use Rattle.oc_model.specs.declared.schema.ClassDef.{ClassDef}
use Rattle.oc_model.specs.Maps.{Map, Text}
use Rattle.oc_model.specs.Stores.{Store, entry_for}

-- a current field
abbrev pub field : ℕ → Text → Kind → FieldDef
field id name kind = record { id = id; name = name; kind = kind; current = true; indexed = false }

-- a class under a parent, which is 0 for none
abbrev pub class : ℕ → Text → List FieldDef → ClassDef
class parent name fields = record { name = name; parent = parent; fields = fields }

-- the fields' values in their order; the fields that are left have no entry
abbrev pub entries : List FieldDef → List Value → List Entry
entries [] vs = []
entries (f ∷ fs) [] = []
entries (f ∷ fs) (v ∷ vs) = entry_for f v ∷ entries fs vs

-- an object of the class of this number, with the values of these fields
abbrev pub object : ℕ → List FieldDef → List Value → Rec
object class fields values = record { class = class; entries = entries fields values }

-- the records under the numbers from this one on
abbrev pub numbered : ℕ → List Rec → Map Rec
numbered n [] = []
numbered n (r ∷ rs) = (n, r) ∷ numbered (n + 1) rs

-- the store of these classes, and of these records under the numbers from 1 on
abbrev pub store : List ClassDef → List Rec → Store
store classes records = record { schema = record { classes = classes; next_field = 100 }; next = length records + 1; records = numbered 1 records }

-- ---- values

-- a whole number
abbrev pub whole : ℤ → Value
whole n = value.One (atom.Int n)

-- a truth value
abbrev pub truth : Bool → Value
truth b = value.One (atom.Bool b)

-- a text
abbrev pub text : Text → Value
text t = value.One (atom.Text (Some t))

-- a text that is null
abbrev pub no_text : Value
no_text = value.One (atom.Text None)

-- to the object of this number, 0 for null
abbrev pub ref : ℕ → Value
ref n = value.One (atom.Ref n)

-- an array of these items
abbrev pub array : List Atom → Value
array items = value.Many (Some items)

-- an array that is null
abbrev pub no_array : Value
no_array = value.Many None
