use Rattle.std.proofs.Common.{arith}
use Rattle.bench_parts.proofs.Among.{among}
use Rattle.bench_parts.proofs.walks.activated.Goals as goal

pub plan-requires-clause-root : goal.plan-requires-clause-root
plan-requires-clause-root c = among 0 c.from.result (grind (arith, c.from.ensures, c.if-count-eq0.false))
