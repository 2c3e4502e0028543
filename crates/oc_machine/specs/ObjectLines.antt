-- The lines on single objects and their names: new, let, bind, forget, names, purge and config.
use Rattle.std.specs.Prelude.{ℕ, Bool, true, false, not, ◌==◌, nat_le, List, [], ◌∷◌, filter_map, Option, Some, None, Ok, is_some, if◌then◌else◌}
use Rattle.oc_model.specs.declared.value.Base.TheVariants as base
use Rattle.oc_model.specs.declared.value.Kind.{Kind}
use Rattle.oc_model.specs.declared.value.Kind.TheVariants as kind
use Rattle.oc_model.specs.declared.value.Atom.TheVariants as atom
use Rattle.oc_model.specs.declared.value.Value.{Value}
use Rattle.oc_model.specs.declared.value.Value.TheVariants as value
use Rattle.oc_model.specs.declared.reach.ClassSettings.{ClassSettings}
use Rattle.oc_model.specs.declared.command.Given.{Given}
use Rattle.oc_model.specs.declared.command.ValueText.{ValueText}
use Rattle.oc_model.specs.declared.command.RunDepth.{RunDepth}
use Rattle.oc_model.specs.declared.command.RunDepth.TheVariants as depth
use Rattle.oc_model.specs.declared.command.NumberSetting.{NumberSetting}
use Rattle.oc_model.specs.declared.command.NumberSetting.TheVariants as number
use Rattle.oc_model.specs.declared.command.FlagSetting.{FlagSetting}
use Rattle.oc_model.specs.declared.command.FlagSetting.TheVariants as flag
use Rattle.oc_model.specs.declared.answer.NameLine.{NameLine}
use Rattle.oc_model.specs.declared.answer.Mark.{Mark}
use Rattle.oc_model.specs.declared.answer.Mark.TheVariants as mark
use Rattle.oc_model.specs.declared.answer.Word.TheVariants as word
use Rattle.oc_model.specs.declared.answer.Answer.TheVariants as answer
use Rattle.oc_model.specs.Maps.{Text, at, with_at}
use Rattle.oc_model.specs.Schemas.{class_named, field_named}
use Rattle.oc_model.specs.Stores.{value_in, written}
use Rattle.oc_model.specs.States.{State, Live, Settings, settings_of}
use Rattle.oc_model.specs.Nodes.{is_stored, is_unsaved, is_awake}
use Rattle.oc_machine.specs.Outcomes.{Outcome, Checked, ◌>>=◌, ◌>>◌, unless, or_refuse, done}
use Rattle.oc_machine.specs.Memory.{bound, with_bound, without_name, live_named, with_live, with_new, woken, all_woken, to_handle, detached}
use Rattle.oc_machine.specs.Values.{FieldValues, checked, numbers_given, with_given}

-- ---- new

-- A new object with these values and the defaults elsewhere, and its handle. What the values name by number is live before it.
unfoldable pub made : State → ℕ → FieldValues → State × ℕ
unfolding written
made m c fs =
    let w = all_woken m (numbers_given fs) in
    (with_new w (record { class = c; number = None; active = true; entries = written w.session.schema c (with_given w [] fs) [] }), w.next_handle)

-- with the name bound to this handle
abbrev pub with_name : State → Text → ℕ → State
with_name m name h = record m { names = with_bound m.names name h }

-- a new object, with a name bound to it
unfoldable pub new_step : State → Text → Text → List Given → Checked Outcome
unfolding checked made
new_step m name class gs =
    or_refuse (class_named m.session.schema class) word.Class >>= λ c.
    checked m c [] gs >>= λ fs.
    (let r = made m c fs in done (with_name r.0 name r.1))

-- ---- let

-- with these values in the object
abbrev pub with_values : State → ℕ → Live → FieldValues → State
with_values m h o fs =
    let w = all_woken m (numbers_given fs) in
    with_live w h (record { class = o.class; number = o.number; active = o.active; entries = with_given w o.entries fs })

-- the field of a named object gets a value
unfoldable pub let_step : State → Text → Text → ValueText → Checked Outcome
unfolding checked
let_step m name field x =
    live_named m name >>= λ o.
    unless (is_awake o.1) word.Stub >>
    checked m (o.1).class [] (record { name = field; value = x } ∷ []) >>= λ fs.
    done (with_values m o.0 o.1 fs)

-- ---- bind

-- a name for the live object of a stored number, which is there from now on
unfoldable pub bind_number_step : State → Text → ℕ → Checked Outcome
bind_number_step m name n =
    unless (is_stored m.session n) word.Live >>
    (let w = woken m n in done (with_name w name (to_handle w n)))

-- a single reference
abbrev pub is_reference : Kind → Bool
is_reference (kind.One base.Ref) = true
is_reference k = false

-- the handle that a value names, if it is a reference and isn't null
abbrev pub named_by : Value → Option ℕ
named_by (value.One (atom.Ref h)) = if h == 0 then None else Some h
named_by v = None

-- a name for what a field of a named object refers to
unfoldable pub bind_field_step : State → Text → Text → Text → Checked Outcome
unfolding field_named
bind_field_step m name source field =
    live_named m source >>= λ o.
    unless (is_awake o.1) word.Stub >>
    or_refuse (field_named m.session.schema (o.1).class field) word.Field >>= λ f.
    unless (is_reference f.kind) word.Kind >>
    or_refuse (named_by (value_in (o.1).entries f.id f.kind)) word.Live >>= λ h.
    done (with_name m name h)

-- ---- forget, names and purge

-- a name is bound to nothing any more
unfoldable pub forget_step : State → Text → Checked Outcome
forget_step m name =
    unless (is_some (bound m.names name)) word.Name >>
    done (record m { names = without_name m.names name })

-- how an object in memory is marked: by its number, or by its handle where it is unsaved
abbrev pub mark_of : ℕ → Option ℕ → Mark
mark_of h None = mark.Handle h
mark_of h (Some n) = mark.Number n

-- a bound name with its object, as it is listed
abbrev pub name_line : State → Text × ℕ → Option NameLine
name_line m e = elim (at m.live e.1) [
  | None ↦ None
  | Some o ↦ Some (record { name = e.0; mark = mark_of e.1 o.number; active = is_awake o })
]

-- the bound names
unfoldable pub names_step : State → Checked Outcome
names_step m = Ok (m, answer.Names (filter_map (name_line m) m.names))

-- the object is live without its number from now on
unfoldable pub purge_step : State → Text → Checked Outcome
purge_step m name =
    live_named m name >>= λ o.
    unless (not (is_unsaved o.1)) word.Live >>
    done (with_live m o.0 (detached o.1))

-- ---- config

-- the state under other settings
abbrev pub with_settings : State → Settings → State
with_settings m s = record m { settings = s }

-- the settings with this depth
abbrev pub run_depth : RunDepth → ℕ → Settings → Settings
run_depth depth.Activation k s = record s { activation = k }
run_depth depth.Update k s = record s { update = k }

-- the class's settings with this number
abbrev pub number_setting : NumberSetting → ℕ → ClassSettings → ClassSettings
number_setting number.Minimum k s = record s { minimum = k }
number_setting number.Maximum k s = record s { maximum = k }
number_setting number.Update k s = record s { update = Some k }

-- the class's settings with this switch on or off
abbrev pub flag_setting : FlagSetting → Bool → ClassSettings → ClassSettings
flag_setting flag.CascadeActivate on s = record s { cascade_activate = on }
flag_setting flag.CascadeUpdate on s = record s { cascade_update = on }
flag_setting flag.CascadeDelete on s = record s { cascade_delete = on }

-- with the settings of a class changed
abbrev pub with_class_settings : State → ℕ → (ClassSettings → ClassSettings) → State
with_class_settings m c change = with_settings m (record m.settings { classes = with_at m.settings.classes c (change (settings_of m.settings c)) })

-- a depth for the run
unfoldable pub config_run_step : State → RunDepth → ℕ → Checked Outcome
config_run_step m which k = unless (nat_le k 65535) word.Size >> done (with_settings m (run_depth which k m.settings))

-- a number for a class
unfoldable pub config_number_step : State → Text → NumberSetting → ℕ → Checked Outcome
config_number_step m class setting k =
    or_refuse (class_named m.session.schema class) word.Class >>= λ c.
    unless (nat_le k 65535) word.Size >>
    done (with_class_settings m c (number_setting setting k))

-- a switch of a class
unfoldable pub config_flag_step : State → Text → FlagSetting → Bool → Checked Outcome
config_flag_step m class setting on =
    or_refuse (class_named m.session.schema class) word.Class >>= λ c. done (with_class_settings m c (flag_setting setting on))
