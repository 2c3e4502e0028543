-- Which objects a query for a class is answered with, what is read of them, and how each is shown.
use Rattle.std.specs.Prelude.{ℕ, ◌&&◌, nat_le, List, [], map, filter, is_some, Option, Some, None, if◌then◌else◌}
use Rattle.std.specs.Option.{option_map_or}
use Rattle.oc_model.specs.declared.command.Command.{Command}
use Rattle.oc_model.specs.declared.command.Command.TheVariants.{Query}
use Rattle.oc_model.specs.declared.value.Entry.{Entry}
use Rattle.oc_model.specs.declared.value.Rec.{Rec}
use Rattle.oc_model.specs.declared.schema.FieldDef.{FieldDef}
use Rattle.oc_model.specs.declared.answer.Mark.{Mark}
use Rattle.oc_model.specs.declared.answer.Mark.TheVariants as mark
use Rattle.oc_model.specs.declared.answer.ObjectLine.{ObjectLine}
use Rattle.oc_model.specs.declared.answer.ShownField.{ShownField}
use Rattle.oc_model.specs.Maps.{Text}
use Rattle.oc_model.specs.Schemas.{Schema, class_named, fields_of, is_sub}
use Rattle.oc_model.specs.Stores.{value_in}
use Rattle.oc_machine.specs.Showing.{class_name, shown_fields, shown_value_by}
use Rattle.oc_chunks.specs.Chunks.{joined}
use Rattle.oc_index.specs.declared.items.ExtentItem.{ExtentItem}
use Rattle.oc_slots.specs.declared.slot.Side.TheVariants.{Session}
use Rattle.oc_store.specs.Filed.{class_on, FiledStore}

-- ---- which objects

-- the numbers of the objects of a class and of those below it, ascending
abbrev pub objects_below : Schema → ℕ → List ExtentItem → List ℕ
objects_below s c extents = map (λ e. e.number) (filter (λ e. is_sub s e.class c) extents)

-- those of the class of this name, and none where it isn't a class's
abbrev pub objects_named : FiledStore → Text → List ℕ
objects_named v name = option_map_or (λ c. objects_below (v.session).schema c (joined ((v.lists).extents).chunks)) (class_named (v.session).schema name) []

-- those that a command reads: a query for all objects of a class reads these, and what else is built reads none
abbrev pub objects_read : FiledStore → Command → List ℕ
objects_read v (Query class None []) = objects_named v class
objects_read v c = []

-- ---- how an object is shown

-- how a reference is shown: one to an object that the session hasn't is null
abbrev pub mark_in : FiledStore → ℕ → Option Mark
mark_in v n = if nat_le n 4294967295 && is_some (class_on Session v n) then Some (mark.Number n) else None

-- a field with the value that the entries have under its id
abbrev pub shown_field : (ℕ → Option Mark) → List Entry → FieldDef → ShownField
shown_field r es f = record { name = f.name; value = shown_value_by r (value_in es f.id f.kind) }

-- the line of the object that has this record
abbrev pub record_line : (ℕ → Option Mark) → Schema → ℕ → Rec → ObjectLine
record_line r s n rec = record { mark = mark.Number n; class = class_name s rec.class; fields = shown_fields r (fields_of s rec.class) rec.entries }
