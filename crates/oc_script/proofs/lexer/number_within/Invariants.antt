use Rattle.std.proofs.Common.{◌≡◌, drop}
use Rattle.oc_machine.specs.Lexing.{number}
use Rattle.oc_script.specs.Lexed.{number_after}
use Rattle.oc_script.proofs.lexer.number_within.Given as goal

abbrev pub invariant-loop-digit : goal.invariant-loop-digit
invariant-loop-digit l = number_after l.number (drop l.digit-index l.digits) ≡ number l.digits
