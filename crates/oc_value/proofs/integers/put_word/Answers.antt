use Rattle.std.proofs.Common.{arith}
use Rattle.oc_value.proofs.Bytes.{one_byte_more}
use Rattle.oc_value.proofs.integers.put_word.Goals as goal

pub loop-k-preserved : goal.loop-k-preserved
loop-k-preserved g c =
    one_byte_more c.loop-k.out.items c.push.new.self.items _ c.byte_of.result c.loop-k.k c.args.word (omega arith) c.byte_of.ensures c.in_ok-push.ensures.items c.loop-k.invariant
