-- What `parse_line` answers, by what the line reads as.
use Rattle.std.specs.Prelude.{◌≡◌, Option, Some, None, Ok, Err}
use Rattle.std.specs.declared.result.Result.{Result}
use Rattle.oc_model.specs.declared.command.Command.{Command}
use Rattle.oc_model.specs.declared.answer.Word.TheVariants as word
use Rattle.oc_machine.specs.Reading.{Reading, nothing, refused, reads}
use Rattle.oc_script.specs.declared.line.LineFault.{LineFault}
use Rattle.oc_script.specs.declared.line.LineFault.TheVariants.{Syntax, Long, Deep, Memory}

abbrev pub ReadsAs : Reading → Result (Option Command) LineFault → Type 0
ReadsAs r (Ok None) = r ≡ nothing
ReadsAs r (Ok (Some c)) = r ≡ reads c
ReadsAs r (Err Syntax) = r ≡ refused word.Syntax
ReadsAs r (Err Long) = r ≡ refused word.Long
ReadsAs r (Err Deep) = r ≡ refused word.Deep
ReadsAs r (Err Memory) = Unit {0}
