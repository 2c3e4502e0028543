use Rattle.std.proofs.Common.{◌≡◌, length}
use Rattle.oc_segments.specs.Segments.{is_rising}
use Rattle.oc_segments.proofs.reading.ascends.Given as goal

abbrev pub invariant-loop-rest : goal.invariant-loop-rest
invariant-loop-rest g l = is_rising g.E.Entry.order l.rest ≡ is_rising g.E.Entry.order l.items

abbrev pub decreases-loop-rest : goal.decreases-loop-rest
decreases-loop-rest g l = length l.rest
