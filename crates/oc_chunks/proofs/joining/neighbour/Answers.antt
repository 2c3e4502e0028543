use Rattle.std.proofs.Common.{◌-◌, ap, arith}
use Rattle.oc_chunks.proofs.Merged.{alone_first, neighbours}
use Rattle.oc_chunks.proofs.joining.neighbour.Goals as goal

pub returns-then-pieces-first-gt0-clause-found : goal.returns-then-pieces-first-gt0-clause-found
returns-then-pieces-first-gt0-clause-found g c =
    neighbours c.args.pieces.now (c.loop-first.first - 1) c.args.at c.index-pieces-first.result c.index-pieces-at.result (omega arith) c.requires c.index-pieces-first.is c.index-pieces-at.is (omega (arith, ap (λ p. p.part.len) c.index-pieces-first.is, c.if-pieces-first-gt0.true)) (omega (arith, ap (λ p. p.part.len) c.index-pieces-at.is, c.if-pieces-at-eq0.false))
    (λ k d low high. c.loop-first.invariant k d (omega arith) high)

pub returns-clause-none : goal.returns-clause-none
returns-clause-none g c = alone_first c.args.pieces.now c.args.at (λ k d low high. c.loop-first.invariant k d (omega arith) high) (omega (arith, c.requires))
