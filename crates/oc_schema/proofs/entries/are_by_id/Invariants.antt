use Rattle.std.proofs.Common.{◌≡◌, ◌∷◌, drop, map}
use Rattle.oc_model.specs.StoreRules.{are_ascending}
use Rattle.oc_schema.proofs.entries.are_by_id.Given as goal

abbrev pub invariant-loop-next : goal.invariant-loop-next
invariant-loop-next l = are_ascending (map (λ e. e.id) (l.before ∷ drop l.next-index l.rest)) ≡ are_ascending (map (λ e. e.id) l.entries)
