use Rattle.std.proofs.Common.{◌≡◌, ◌++◌}
use Rattle.std.specs.Int.{bytes_high_first}
use Rattle.oc_value.proofs.integers.put_word.Given as goal

abbrev pub invariant-loop-k : goal.invariant-loop-k
invariant-loop-k g l = l.out.items ++ bytes_high_first l.k l.word ≡ l.fn.out.items ++ bytes_high_first g.row.W l.word
