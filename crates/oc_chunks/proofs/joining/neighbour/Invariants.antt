use Rattle.std.proofs.Common.{◌≡◌}
use Rattle.std.specs.List.{AllWithin}
use Rattle.oc_chunks.proofs.joining.neighbour.Given as goal

-- none of the pieces that were passed has entries
abbrev pub invariant-loop-first : goal.invariant-loop-first
invariant-loop-first g l = AllWithin (λ p. p.part.len ≡ 0) l.pieces l.first l.at
