use Rattle.std.proofs.Common.{◌≡◌, ◌+◌, drop}
use Rattle.std.specs.List.{list_all, enumerate_from}
use Rattle.oc_refactor.specs.Around.{fits_below, all_fit_below}
use Rattle.oc_refactor.proofs.limits.all_fit_below.Given as goal

abbrev pub invariant-loop-place : goal.invariant-loop-place
invariant-loop-place l =
    list_all (λ e. fits_below l.schema l.class l.count e.0) (enumerate_from (l.place + 1) (drop l.place l.schema.classes)) ≡ all_fit_below l.schema l.class l.count
