use Rattle.std.specs.List.{All}
use Rattle.oc_model.specs.Lists.{IsOneOf}
use Rattle.bench_parts.specs.Rows.{row}
use Rattle.bench_parts.proofs.walks.between.Given as goal

abbrev pub invariant-loop-handle : goal.invariant-loop-handle
invariant-loop-handle l = All (λ y. IsOneOf y (row l.count)) l.nodes.items
