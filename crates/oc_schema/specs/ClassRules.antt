-- The rules that a class and a field keep by themselves.
use Rattle.std.specs.Prelude.{ℕ, Bool, not, ◌&&◌, ◌||◌, ◌==◌, nat_lt, nat_le, List, length}
use Rattle.std.specs.List.{list_all}
use Rattle.std.specs.Char.{is_ascii_alphanumeric}
use Rattle.oc_model.specs.declared.schema.FieldDef.{FieldDef}
use Rattle.oc_model.specs.declared.schema.ClassDef.{ClassDef}
use Rattle.oc_model.specs.Kinds.{is_array}
use Rattle.oc_model.specs.SchemaRules.{is_name, are_in_order}

-- a letter, a digit or `_`
abbrev pub is_name_byte : ℕ → Bool
is_name_byte c = is_ascii_alphanumeric c || c == 95

-- The field has a name and an id that was drawn. Where it is indexed it is current and no array.
abbrev pub field_keeps : ℕ → FieldDef → Bool
field_keeps next f = is_name f.name && (nat_le 1 f.id && nat_lt f.id next) && (f.current || not f.indexed) && not (f.indexed && is_array f.kind)

-- There are at most 1,000 fields, they stand in order, and each keeps its rules.
abbrev pub fields_keep : ℕ → List FieldDef → Bool
fields_keep next fields = nat_le (length fields) 1000 && are_in_order fields && list_all (field_keeps next) fields

-- The class of this number has a name, and an earlier parent or none, and its fields keep their rules.
abbrev pub class_keeps : ℕ → ℕ × ClassDef → Bool
class_keeps next e = is_name (e.1).name && nat_lt (e.1).parent e.0 && fields_keep next (e.1).fields
