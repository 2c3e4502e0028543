use Rattle.std.proofs.Common.{◌≡◌, ◌+◌, drop}
use Rattle.std.specs.List.{prefix_len}
use Rattle.oc_machine.specs.Lexing.{in_word}
use Rattle.oc_script.proofs.lexer.word_len.Given as goal

abbrev pub invariant-loop-byte : goal.invariant-loop-byte
invariant-loop-byte l =
    record {
      count : l.count ≡ l.byte-index;
      rest : l.count + prefix_len in_word (drop l.byte-index l.text) ≡ prefix_len in_word l.text;
    }
