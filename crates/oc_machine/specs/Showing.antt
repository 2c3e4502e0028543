-- How stored objects are shown.
use Rattle.std.specs.Prelude.{ℕ, List, [], map, Option, Some, None, option_map, unwrap_or, if◌then◌else◌}
use Rattle.oc_model.specs.declared.value.Atom.{Atom}
use Rattle.oc_model.specs.declared.value.Atom.TheVariants as atom
use Rattle.oc_model.specs.declared.value.Value.{Value}
use Rattle.oc_model.specs.declared.value.Value.TheVariants as value
use Rattle.oc_model.specs.declared.value.Entry.{Entry}
use Rattle.oc_model.specs.declared.schema.FieldDef.{FieldDef}
use Rattle.oc_model.specs.declared.answer.Mark.{Mark}
use Rattle.oc_model.specs.declared.answer.Mark.TheVariants as mark
use Rattle.oc_model.specs.declared.answer.ShownAtom.{ShownAtom}
use Rattle.oc_model.specs.declared.answer.ShownAtom.TheVariants as shown_atom
use Rattle.oc_model.specs.declared.answer.ShownValue.{ShownValue}
use Rattle.oc_model.specs.declared.answer.ShownValue.TheVariants as shown_value
use Rattle.oc_model.specs.declared.answer.Shown.{Shown}
use Rattle.oc_model.specs.declared.answer.Shown.TheVariants as shown
use Rattle.oc_model.specs.declared.answer.ObjectLine.{ObjectLine}
use Rattle.oc_model.specs.Maps.{Text, at}
use Rattle.oc_model.specs.Schemas.{Schema, class_at, fields_of}
use Rattle.oc_model.specs.Stores.{Store, value_in}
use Rattle.oc_model.specs.Nodes.{is_stored}

-- how a stored reference is shown: one to an object that the store hasn't is null
abbrev pub stored_mark : Store → ℕ → Option Mark
stored_mark s n = if is_stored s n then Some (mark.Number n) else None

-- a single value as it is shown, with a mark for a reference
abbrev pub shown_atom_by : (ℕ → Option Mark) → Atom → ShownAtom
shown_atom_by r (atom.Bool b) = shown_atom.Bool b
shown_atom_by r (atom.Int n) = shown_atom.Int n
shown_atom_by r (atom.Text t) = shown_atom.Text t
shown_atom_by r (atom.Ref n) = shown_atom.Ref (r n)

-- a value, with its references shown so
abbrev pub shown_value_by : (ℕ → Option Mark) → Value → ShownValue
shown_value_by r (value.One a) = shown_value.One (shown_atom_by r a)
shown_value_by r (value.Many None) = shown_value.Many None
shown_value_by r (value.Many (Some items)) = shown_value.Many (Some (map (shown_atom_by r) items))

-- the fields with the values that the entries have under their ids
abbrev pub shown_fields : (ℕ → Option Mark) → List FieldDef → List Entry → Shown
shown_fields r fs es = shown.Fields (map (λ f. record { name = f.name; value = shown_value_by r (value_in es f.id f.kind) }) fs)

-- the name of a class, empty where there is none
abbrev pub class_name : Schema → ℕ → Text
class_name s c = unwrap_or (option_map (λ d. d.name) (class_at s c)) []

-- a stored object as it is shown
unfoldable pub stored_line : Store → ℕ → Option ObjectLine
unfolding fields_of
stored_line s n =
    option_map (λ r. record { mark = mark.Number n; class = class_name s.schema r.class; fields = shown_fields (stored_mark s) (fields_of s.schema r.class) r.entries }) (at s.records n)
