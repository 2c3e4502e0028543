use Rattle.std.proofs.Common.{arith}
use Rattle.bench_parts.proofs.Among.{among}
use Rattle.bench_parts.proofs.walks.stored.Goals as goal

pub plan_store-requires-clause-root : goal.plan_store-requires-clause-root
plan_store-requires-clause-root c = among 0 c.from.result (grind (arith, c.from.ensures, c.if-count-eq0.false))
