-- Whether two schemas differ, the order of their fields, the flags and the next field id included.
use Rattle.std.specs.Prelude.{Bool, true, false, not, ◌&&◌, ◌==◌}
use lib.Pointwise.{pointwise}
use Rattle.oc_model.specs.declared.schema.FieldDef.{FieldDef}
use Rattle.oc_model.specs.declared.schema.ClassDef.{ClassDef}
use Rattle.oc_model.specs.Maps.{same}
use Rattle.oc_model.specs.Kinds.{same_kind}
use Rattle.oc_model.specs.Schemas.{Schema}

-- two truth values are the same
abbrev pub same_flag : Bool → Bool → Bool
same_flag true b = b
same_flag false b = not b

-- the same field: id, name, kind, and whether it is current and indexed
abbrev pub same_field : FieldDef → FieldDef → Bool
same_field f g = f.id == g.id && same f.name g.name && same_kind f.kind g.kind && same_flag f.current g.current && same_flag f.indexed g.indexed

-- the same class: name, parent, and fields in order
abbrev pub same_class : ClassDef → ClassDef → Bool
same_class c d = same c.name d.name && c.parent == d.parent && pointwise same_field c.fields d.fields

-- the two schemas aren't the same
unfoldable pub differs : Schema → Schema → Bool
differs s t = not (pointwise same_class s.classes t.classes && s.next_field == t.next_field)
