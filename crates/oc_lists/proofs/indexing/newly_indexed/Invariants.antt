use Rattle.std.proofs.Common.{◌≡◌, ◌++◌, not, filter, drop}
use Rattle.oc_lists.specs.Following.{has_index}
use Rattle.oc_lists.proofs.indexing.newly_indexed.Given as goal

abbrev pub invariant-loop-id : goal.invariant-loop-id
invariant-loop-id l = l.added.items ++ filter (λ e. not (has_index l.old e.0)) (drop l.id-index l.id-items) ≡ filter (λ e. not (has_index l.old e.0)) l.id-items
