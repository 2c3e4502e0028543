use Rattle.std.proofs.Common.{◌-◌}
use Rattle.oc_chunks.proofs.search.+len_begun.Given as goal

abbrev pub decreases-len_begun : goal.decreases-len_begun
decreases-len_begun g l = l.high - l.low
