-- The lines that change the schema: class, rename, index, unindex and convert.
use Rattle.std.specs.Prelude.{ℕ, Bool, not, ◌&&◌, ◌==◌, nat_le, List, filter, filter_map, fold, length, Option, Some, None, Ok, is_none, option_map, if◌then◌else◌}
use Rattle.std.specs.Option.{option_and_then}
use Rattle.std.specs.List.{list_all, list_any}
use Rattle.oc_model.specs.declared.value.Kind.{Kind}
use Rattle.oc_model.specs.declared.value.Value.{Value}
use Rattle.oc_model.specs.declared.value.Entry.{Entry}
use Rattle.oc_model.specs.declared.value.Rec.{Rec}
use Rattle.oc_model.specs.declared.command.Decl.{Decl}
use Rattle.oc_model.specs.declared.answer.Word.TheVariants as word
use Rattle.oc_model.specs.declared.answer.Answer.TheVariants as answer
use Rattle.oc_model.specs.Maps.{Map, Text, with_at}
use Rattle.oc_model.specs.Conversions.{converted}
use Rattle.oc_model.specs.Schemas.{Schema, class_named, fields_of, is_sub}
use Rattle.oc_model.specs.SchemaSteps.{declared, class_renamed, field_renamed, index_set, Conversion, conversion_of}
use Rattle.oc_model.specs.SchemaEquality.{differs}
use Rattle.oc_model.specs.Stores.{Store, entry_of, entered, record_len}
use Rattle.oc_model.specs.States.{State, Live}
use Rattle.oc_model.specs.Nodes.{is_unsaved}
use Rattle.oc_machine.specs.Outcomes.{Outcome, Checked, ◌>>=◌, ◌>>◌, unless, done}
use Rattle.oc_machine.specs.Memory.{with_all, emptied}

-- ---- the schema

-- with this schema in the session
abbrev pub set_schema : State → Schema → State
set_schema m s = record m { session = record m.session { schema = s } }

-- the object is of the class or of one below it
abbrev pub is_live_of : Schema → ℕ → Live → Bool
is_live_of s c o = is_sub s o.class c

-- ---- class

-- without the values of fields that the class hasn't any more
abbrev pub with_current : Schema → Live → Live
with_current s o =
    record {
      class = o.class;
      number = o.number;
      active = o.active;
      entries = filter (λ e. list_any (λ f. f.id == e.id) (fields_of s o.class)) o.entries;
    }

-- A stored object becomes inactive. An unsaved one keeps the values of the fields that its class has.
abbrev pub declared_again : Schema → Live → Live
declared_again s o = if is_unsaved o then with_current s o else emptied o

-- what becomes of the objects in memory where the schema of a class that was there changed
abbrev pub with_class_changed : State → Option ℕ → Schema → State
with_class_changed m None s = set_schema m s
with_class_changed m (Some c) s =
    if differs m.session.schema s then with_all (λ h o. is_live_of s c o) (declared_again s) (set_schema m s) else m

-- The class is new, or is given these parent and fields, and live objects of it and below take the change.
unfoldable pub class_step : State → Text → Option Text → List Decl → Checked Outcome
unfolding declared differs fields_of is_sub
class_step m name parent ds =
    declared m.session.schema name parent ds >>= λ s. done (with_class_changed m (class_named m.session.schema name) s)

-- ---- rename and index

-- the class under another name, which no object notices
unfoldable pub rename_class_step : State → Text → Text → Checked Outcome
unfolding class_renamed
rename_class_step m class to = class_renamed m.session.schema class to >>= λ s. done (set_schema m s)

-- the field under another name, which no object notices
unfoldable pub rename_field_step : State → Text → Text → Text → Checked Outcome
unfolding field_renamed
rename_field_step m class field to = field_renamed m.session.schema class field to >>= λ s. done (set_schema m s)

-- the field with an index, or without one
unfoldable pub index_step : State → Text → Text → Bool → Checked Outcome
unfolding index_set
index_step m class field on = index_set m.session.schema class field on >>= λ s. done (set_schema m s)

-- ---- convert

-- the entries with the value under the current field's id, and without the past one
abbrev pub with_converted : Conversion → List Entry → Value → List Entry
with_converted v es x = entered (record { id = v.current; value = x; kind = v.to }) (filter (λ e. not (e.id == v.past)) es)

-- the value of the past field, if the record has one and none of the current field
abbrev pub convertible : Conversion → List Entry → Option Value
convertible v es = if is_none (entry_of v.current es) then entry_of v.past es else None

-- the entries after the conversion, if there is something to convert and it has a value of the new kind
abbrev pub converted_entries : Conversion → List Entry → Option (List Entry)
converted_entries v es = option_map (with_converted v es) (option_and_then (converted v.from v.to) (convertible v es))

-- an object of the class or of one below it, with its record after the conversion, if that changes it
abbrev pub converted_record : Schema → Conversion → ℕ × Rec → Option (ℕ × Rec)
converted_record s v e =
    if is_sub s (e.1).class v.class
    then option_map (λ es. (e.0, record { class = (e.1).class; entries = es })) (converted_entries v (e.1).entries)
    else None

-- the records that a conversion changes, by number
unfoldable pub conversions : Store → Conversion → Map Rec
unfolding converted is_sub
conversions s v = filter_map (converted_record s.schema v) s.records

-- no record is longer than 262,144 bytes
abbrev pub are_short : Map Rec → Bool
are_short changes = list_all (λ e. nat_le (record_len e.1) 262144) changes

-- the session with these records in place of what was there
abbrev pub with_records : State → Map Rec → State
with_records m changes =
    record m { session = record m.session { records = fold (λ (all : Map Rec) e. with_at all e.0 e.1) m.session.records changes } }

-- an active object of the class or of one below it, which has a number
abbrev pub is_stored_of : Schema → ℕ → Live → Bool
is_stored_of s c o = o.active && not (is_unsaved o) && is_live_of s c o

-- Records of the class take the values of the past field into the current one, and its stored objects become inactive.
unfoldable pub convert_step : State → Text → Text → Kind → Checked Outcome
unfolding conversion_of conversions is_sub
convert_step m class field from =
    conversion_of m.session.schema class field from >>= λ v.
    (let changes = conversions m.session v in
    unless (are_short changes) word.Size >>
    Ok (with_all (λ h o. is_stored_of m.session.schema v.class o) emptied (with_records m changes), answer.Converted (length changes)))
