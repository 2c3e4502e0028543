use Rattle.std.proofs.Common.{◌≡◌, map, drop}
use Rattle.oc_model.specs.Maps.{is_in}
use Rattle.oc_lists.proofs.indexing.is_among.Given as goal

abbrev pub invariant-loop-id : goal.invariant-loop-id
invariant-loop-id l = is_in (map (λ e. e.0) (drop l.id-index l.started)) l.wanted ≡ is_in (map (λ e. e.0) l.started) l.wanted
