use Rattle.std.proofs.Common.{◌≡◌, ◌<◌, ◌^◌, take, drop}
use Rattle.std.specs.Int.{bytes_high_first}
use Rattle.oc_value.proofs.integers.word_at.Given as goal

abbrev pub invariant-loop-k : goal.invariant-loop-k
invariant-loop-k g l = record {
  small : l.word < 256 ^ l.k;
  spelled : take l.k (drop l.at l.bytes) ≡ bytes_high_first l.k l.word;
}
