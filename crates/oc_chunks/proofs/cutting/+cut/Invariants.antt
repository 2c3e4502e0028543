use Rattle.std.proofs.Common.{length}
use Rattle.oc_chunks.proofs.cutting.+cut.Given as goal

-- each half is shorter
abbrev pub decreases-cut : goal.decreases-cut
decreases-cut g l = length l.entries.items
