-- Worked runs, by computation. Nothing stands on them: each shows the definitions against a run that was written by hand.
use Rattle.std.specs.Prelude.{codes, ◌++◌, [], ◌∷◌, List, ℕ, zero, suc, flat_map}
use Rattle.oc_model.specs.Maps.{Text}
use Rattle.oc_model.specs.Stores.{Store, empty_store}
use Rattle.oc_machine.specs.Runs.{line_step, is_built, all_built, text, left_by}
use Rattle.oc_machine.specs.Reading.{reading}
use Rattle.oc_machine.specs.Printing.{answer_text}
use Rattle.oc_machine.specs.Machine.{step}
mod FirstPath
mod Generated
mod Activating
mod Forgetting
mod Storing
mod Committing
mod Naming
mod Refactoring
mod Asking
mod ByExample
mod Limits
mod Running
mod Spending
mod Readings
mod Refusals

-- what a run computes with: a row names this alone
unfoldable pub rows : Unit {0}
unfolding line_step is_built reading step answer_text
rows = tt

-- what the program says of a script over an empty file
abbrev pub said : Text → Text
said script = text is_built (empty_store 1) script []

-- a text so many times
abbrev pub times : ℕ → Text → Text
times zero t = []
times (suc n) t = t ++ times n t

-- each of the lines with its LF
abbrev pub lines : List Text → Text
lines ls = flat_map (λ l. l ++ 10 ∷ []) ls

-- what the whole machine says of a script of these lines over a store
abbrev pub run_over : Store → List Text → Text
run_over s script = text all_built s (lines script) []

-- over an empty file
abbrev pub run : List Text → Text
run script = run_over (empty_store 1) script

-- what a second run says over the file that a first one left
abbrev pub then : List Text → List Text → Text
then first second = run_over (left_by all_built (empty_store 1) (lines first) []) second

-- what the whole machine says of a script over an empty file
abbrev pub said_by_whole : Text → Text
said_by_whole script = text all_built (empty_store 1) script []
