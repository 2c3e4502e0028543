-- Each command that changes a schema makes one that may follow: what that says, command by command.
use Rattle.std.specs.Prelude.{◌≡◌, Bool, List, Ok, Option, IsTrue}
use Rattle.std.specs.List.{list_all}
use Rattle.oc_model.specs.declared.command.Decl.{Decl}
use Rattle.oc_model.specs.Maps.{Text}
use Rattle.oc_model.specs.Schemas.{Schema}
use Rattle.oc_model.specs.SchemaRules.{is_name, keeps_rules}
use Rattle.oc_model.specs.SchemaSteps.{declared, class_renamed, field_renamed, index_set}
use Rattle.oc_lists.specs.Following.{MayFollow}

-- With a class declared, a new one or one that is there, a schema may follow. Only names are declared.
abbrev pub DeclaredFollows : Type 0
DeclaredFollows =
    (s t : Schema) (name : Text) (parent : Option Text) (ds : List Decl) → IsTrue (keeps_rules s) → IsTrue (is_name name) → IsTrue (list_all (λ d. is_name d.name) ds)
    → declared s name parent ds ≡ Ok t → MayFollow s t

-- With another name for a class it may follow. Only a name is given.
abbrev pub ClassRenamedFollows : Type 0
ClassRenamedFollows = (s t : Schema) (name to : Text) → IsTrue (keeps_rules s) → IsTrue (is_name to) → class_renamed s name to ≡ Ok t → MayFollow s t

-- With another name for a field it may follow. Only a name is given.
abbrev pub FieldRenamedFollows : Type 0
FieldRenamedFollows = (s t : Schema) (class name to : Text) → IsTrue (keeps_rules s) → IsTrue (is_name to) → field_renamed s class name to ≡ Ok t → MayFollow s t

-- With an index for a field, or without one, it may follow.
abbrev pub IndexSetFollows : Type 0
IndexSetFollows = (s t : Schema) (class name : Text) (on : Bool) → IsTrue (keeps_rules s) → index_set s class name on ≡ Ok t → MayFollow s t
