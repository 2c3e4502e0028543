-- Whether two schemas have the same class under a number.
use Rattle.std.specs.Prelude.{Bool, false, Option, Some, None}
use Rattle.oc_model.specs.declared.schema.ClassDef.{ClassDef}
use Rattle.oc_model.specs.SchemaEquality.{same_class}

-- both are there, and are the same class
abbrev pub are_same : Option ClassDef → Option ClassDef → Bool
are_same None d = false
are_same (Some c) None = false
are_same (Some c) (Some d) = same_class c d
