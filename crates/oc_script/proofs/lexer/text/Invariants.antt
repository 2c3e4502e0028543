use Rattle.std.proofs.Common.{◌≡◌, ◌≤◌, ◌-◌, drop, length}
use Rattle.oc_machine.specs.Lexing.{text_after}
use Rattle.oc_script.specs.Lexed.{behind}
use Rattle.oc_script.proofs.lexer.text.Given as goal

abbrev pub invariant-loop-at : goal.invariant-loop-at
invariant-loop-at l =
    record {
      within : l.at ≤ length l.text;
      rest : behind l.bytes.items l.at (text_after 0 (drop l.at l.text)) ≡ text_after 0 l.text;
    }

abbrev pub decreases-loop-at : goal.decreases-loop-at
decreases-loop-at l = length l.text - l.at
