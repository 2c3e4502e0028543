use Rattle.std.proofs.Common.{◌≡◌, ◌+◌, ◌++◌, map, filter, drop}
use Rattle.std.specs.List.{enumerate_from}
use Rattle.oc_refactor.specs.Around.{is_related, classes_around}
use Rattle.oc_refactor.proofs.related.around.Given as goal

abbrev pub invariant-loop-place : goal.invariant-loop-place
invariant-loop-place l =
    map (λ c. c.now) l.around.items ++ map (λ e. e.1) (filter (λ e. is_related l.schema l.class e.0) (enumerate_from (l.place + 1) (drop l.place l.schema.classes)))
    ≡ classes_around l.schema l.class
