-- The values that a line gives: one step of their check, the fields that they are for, and the numbers that they name.
use Rattle.std.specs.Prelude.{◌≡◌, ℕ, Bool, true, false, Ok, Err, not, nat_le, List, map, flat_map, filter_map, option_map, reverse}
use Rattle.std.specs.List.{list_any, list_all}
use Rattle.oc_model.specs.declared.schema.FieldDef.{FieldDef}
use Rattle.oc_model.specs.declared.command.Given.{Given}
use Rattle.oc_model.specs.declared.command.Single.{Single}
use Rattle.oc_model.specs.declared.command.Single.TheVariants as single
use Rattle.oc_model.specs.declared.answer.Word.TheVariants as word
use Rattle.oc_model.specs.Maps.{Text, same}
use Rattle.oc_model.specs.Refusals.{Checked, ◌>>=◌, ◌>>◌, unless, or_refuse}
use Rattle.oc_model.specs.Schemas.{Schema, field_named}
use Rattle.oc_model.specs.States.{State}
use Rattle.oc_model.specs.Values.{fits}
use Rattle.oc_machine.specs.Values.{FieldValues, numbers_in_value, value_found, value_of}

-- a value is null as it is written
abbrev pub is_null : Single → Bool
is_null single.Null = true
is_null s = false

-- the names of the fields that are given, the last one first
abbrev pub names_back : List Given → List Text
names_back gs = reverse (map (λ g. g.name) gs)

-- One value against its field, where these names were given before it: the class hasn't the field, it is given twice, something isn't there, it doesn't fit.
abbrev pub given_checked : State → ℕ → List Text → Given → Checked (Unit {0})
given_checked m c seen g =
    or_refuse (field_named m.session.schema c g.name) word.Field >>= λ f.
    unless (not (list_any (same g.name) seen)) word.Exists >>
    value_found m g.value >>
    unless (fits f.kind (value_of m f.kind g.value)) word.Kind

-- whether all are taken, or the first refusal
abbrev pub verdict : Checked FieldValues → Checked (Unit {0})
verdict (Ok fs) = Ok tt
verdict (Err w) = Err w

-- the fields that are given, with their values; a name that no field has gives none
abbrev pub fields_given : Schema → ℕ → List Given → FieldValues
fields_given s c gs = filter_map (λ (g : Given). option_map (λ (f : FieldDef). (f, g.value)) (field_named s c g.name)) gs

-- the numbers that are named, in their order
abbrev pub numbers_named : List Given → List ℕ
numbers_named gs = flat_map (λ g. numbers_in_value g.value) gs

-- each of them is one of 32 bits, as an object's is
abbrev pub AreNumbers : List ℕ → Type 0
AreNumbers ns = list_all (λ n. nat_le n 4294967295) ns ≡ true
