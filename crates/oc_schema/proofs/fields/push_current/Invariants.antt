use Rattle.std.proofs.Common.{◌≡◌, ◌++◌, map, drop}
use Rattle.oc_model.specs.Schemas.{current}
use Rattle.oc_schema.proofs.fields.push_current.Given as goal

abbrev pub invariant-loop-field : goal.invariant-loop-field
invariant-loop-field l = map (λ f. f.now) l.fields.items ++ current (drop l.field-index l.own) ≡ map (λ f. f.now) l.fn.fields.items ++ current l.own
