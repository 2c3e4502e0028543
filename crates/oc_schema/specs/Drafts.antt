-- A schema from its parts, what is asked of each class with what is above it, and the table of the classes' names.
use Rattle.std.specs.Prelude.{◌≡◌, ℕ, Bool, true, ◌&&◌, nat_le, List, length, map, flat_map, Some, None, is_some, if◌then◌else◌}
use Rattle.std.specs.List.{list_all, enumerate_from}
use Rattle.oc_shared.specs.Tables.{Rows, value_at}
use Rattle.oc_model.specs.declared.value.Rec.{Rec}
use Rattle.oc_model.specs.declared.schema.ClassDef.{ClassDef}
use Rattle.oc_model.specs.Maps.{Text, same, are_distinct}
use Rattle.oc_model.specs.Schemas.{Schema, class_at, number_from, fields_of}
use Rattle.oc_model.specs.SchemaRules.{numbered, ancestors, are_apart, keeps_rules}
use Rattle.oc_model.specs.Spelling.{entry_fits}
use Rattle.oc_model.specs.StoreRules.{is_known, are_ascending}
use Rattle.oc_schema.specs.ClassRules.{class_keeps}

-- the classes, class 1 first, and the id that the next new field gets
abbrev pub schema_of : List ClassDef → ℕ → Schema
schema_of classes next_field = record { classes = classes; next_field = next_field }

-- There are at most 65,535 classes, the next id is from 1 on, each class keeps the rules of a class, and no two fields have one id.
abbrev pub own_rules_keep : List ClassDef → ℕ → Bool
own_rules_keep classes next_field =
    nat_le (length classes) 65535 && nat_le 1 next_field && list_all (class_keeps next_field) (enumerate_from 1 classes) && are_apart (map (λ f. f.id) (flat_map (λ c. c.fields) classes))

-- The class has at most 32 ancestors and 255 fields, and no two of its fields have one name.
abbrev pub line_keeps : Schema → ℕ → Bool
line_keeps s c = nat_le (length (ancestors s c)) 32 && nat_le (length (fields_of s c)) 255 && are_distinct (map (λ f. f.name) (fields_of s c))

-- so each class
abbrev pub lines_keep : Schema → Bool
lines_keep s = list_all (λ e. line_keeps s e.0) (numbered s)

-- the table has the number of each of the classes by its name
abbrev pub IsTable : Rows ℕ → List ClassDef → Type 0
IsTable numbers classes = (name : Text) → value_at numbers name ≡ number_from 1 classes name

-- the new table has the number at one name instead of at another
abbrev pub IsRenamed : Rows ℕ → ℕ → Text → Text → Rows ℕ → Type 0
IsRenamed old number from to new = (name : Text) → value_at new name ≡ (if same to name then Some number else if same from name then None else value_at old name)

-- the schema keeps its rules, and the table is that of its classes
pub record IsKept (s : Schema) (numbers : Rows ℕ) : Type 0 where
  pub rules : keeps_rules s ≡ true
  pub table : IsTable numbers s.classes

-- `Suits` as a test
abbrev pub suits_by_parts : Schema → Rec → Bool
suits_by_parts s r = is_some (class_at s r.class) && list_all (is_known s r.class) r.entries && list_all entry_fits r.entries && are_ascending (map (λ e. e.id) r.entries)
