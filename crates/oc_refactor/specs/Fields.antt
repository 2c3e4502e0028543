-- A class's fields with one of them changed, and the field that a class declares.
use Rattle.std.specs.Prelude.{ℕ, Bool, ◌==◌, Option, Some, None, if◌then◌else◌}
use Rattle.oc_model.specs.declared.schema.FieldDef.{FieldDef}
use Rattle.oc_model.specs.Maps.{Text}
use Rattle.oc_model.specs.Schemas.{Schema}
use Rattle.oc_model.specs.SchemaSteps.{own_field}

-- the field of this id with an index or without one, another field as it is
abbrev pub indexed_at : ℕ → Bool → FieldDef → FieldDef
indexed_at id on f = if f.id == id then record f { indexed = on } else f

-- the field of this id with another name, another field as it is
abbrev pub named_at : ℕ → Text → FieldDef → FieldDef
named_at id to f = if f.id == id then record f { name = to } else f

-- the own current field of this name that the class of this number has, where there is a number
abbrev pub declared_by : Schema → Text → Option ℕ → Option FieldDef
declared_by s name None = None
declared_by s name (Some c) = own_field s c name
