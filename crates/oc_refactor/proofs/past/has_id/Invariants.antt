use Rattle.std.proofs.Common.{◌≡◌, drop, map}
use Rattle.oc_model.specs.Maps.{is_in}
use Rattle.oc_refactor.proofs.past.has_id.Given as goal

abbrev pub invariant-loop-field : goal.invariant-loop-field
invariant-loop-field l = is_in (map (λ f. f.id) (drop l.field-index l.fields)) l.id ≡ is_in (map (λ f. f.id) l.fields) l.id
