use Rattle.oc_machine.proofs.Grammars as grammars
use Rattle.oc_machine.proofs.ReadLines as read
use Rattle.oc_machine.proofs.SpelledLines as spelled
use Rattle.oc_machine.proofs.laws.grammar_is_reading.Goals as goal

pub returns : goal.returns
returns c = record {
  spelled_is_read = spelled.spelled_is_read;
  read_is_spelled = read.read_is_spelled;
  line_is_read = grammars.line_is_read;
  line_is_spelled = grammars.line_is_spelled;
  one_reading = grammars.one_reading;
}
