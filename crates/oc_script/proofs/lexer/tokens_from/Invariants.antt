use Rattle.std.proofs.Common.{◌≡◌, ◌≤◌, ◌-◌, drop, length}
use Rattle.oc_machine.specs.Lexing.{tokens_after}
use Rattle.oc_script.specs.Lexed.{joined, AreWithin}
use Rattle.oc_script.proofs.lexer.tokens_from.Given as goal

abbrev pub invariant-loop-at : goal.invariant-loop-at
invariant-loop-at l =
    record {
      within : l.at ≤ length l.line;
      numbers : AreWithin l.tokens.items;
      rest : joined l.tokens.items (tokens_after 0 (drop l.at l.line)) ≡ tokens_after 0 l.line;
    }

abbrev pub decreases-loop-at : goal.decreases-loop-at
decreases-loop-at l = length l.line - l.at
