use Rattle.oc_value.proofs.Bytes.{byte_by_shift}
use Rattle.oc_value.proofs.integers.byte_of.Goals as goal

pub returns : goal.returns
returns c = byte_by_shift c.args.word c.args.k
