-- Which lines a container has by now, and what they lead to.
use Rattle.std.specs.Prelude.{◌≡◌, Bool, true, false, List, [], Option, Some, None, Err, is_none, if◌then◌else◌}
use Rattle.std.specs.List.{list_all}
use Rattle.oc_model.specs.declared.answer.Answer.{Answer}
use Rattle.oc_model.specs.declared.answer.Answer.TheVariants as answer
use Rattle.oc_model.specs.declared.answer.Word.TheVariants as word
use Rattle.oc_model.specs.declared.command.Command.{Command}
use Rattle.oc_model.specs.declared.command.Command.TheVariants.{Class, Commit, Query, Rollback}
use Rattle.oc_model.specs.declared.command.Decl.{Decl}
use Rattle.oc_model.specs.Maps.{Text}
use Rattle.oc_model.specs.Schemas.{Schema, class_named}
use Rattle.oc_model.specs.SchemaRules.{is_name}
use Rattle.oc_model.specs.States.{State}
use Rattle.oc_machine.specs.Machine.{step}
use Rattle.oc_machine.specs.Outcomes.{Checked, Outcome, settled}
use Rattle.oc_machine.specs.Reading.{reads}
use Rattle.oc_machine.specs.Runs.{Built}
use Rattle.oc_machine.specs.SchemaLines.{class_step}

-- the commands: a class that is new, a query for all objects of a class, commit and rollback
abbrev pub is_built_command : State → Command → Bool
is_built_command m (Class name parent ds) = is_none (class_named m.session.schema name)
is_built_command m (Query class None []) = true
is_built_command m Commit = true
is_built_command m Rollback = true
is_built_command m c = false

-- the lines
unfoldable pub is_built : Built
is_built m (reads c) = is_built_command m c
is_built m r = true

-- A command that is built does its step. Every other one is refused as no command, and the state stays.
abbrev pub built_outcome : State → Command → Outcome
built_outcome m c = if is_built_command m c then step m c else (m, answer.Refused word.Syntax)

-- The names that the declaration of a class gives, its own and those of its fields, are names. Nothing is asked of other commands.
abbrev pub HasNames : Command → Type 0
HasNames (Class name parent ds) = (is_name name ≡ true) × (list_all (λ d. is_name d.name) ds ≡ true)
HasNames c = Unit {0}

-- A class that is new is declared. A name that is a class's is refused as no command.
abbrev pub class_outcome : State → Text → Option Text → List Decl → Outcome
class_outcome m name parent ds =
    if is_none (class_named m.session.schema name) then settled m (class_step m name parent ds) else (m, answer.Refused word.Syntax)

-- the answer of a refusal
abbrev pub refusal : Option (Checked Schema) → Option Answer
refusal (Some (Err w)) = Some (answer.Refused w)
refusal o = None
