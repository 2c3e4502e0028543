use Rattle.std.proofs.Common.{◌≡◌, drop, find}
use Rattle.oc_model.specs.Maps.{same}
use Rattle.oc_model.specs.Schemas.{current}
use Rattle.oc_schema.proofs.fields.current_named.Given as goal

abbrev pub invariant-loop-field : goal.invariant-loop-field
invariant-loop-field l = find (λ f. same f.name l.name) (current (drop l.field-index l.fields)) ≡ find (λ f. same f.name l.name) (current l.fields)
