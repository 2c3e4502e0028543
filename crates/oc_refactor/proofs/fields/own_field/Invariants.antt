use Rattle.std.proofs.Common.{◌≡◌, drop, find}
use Rattle.oc_model.specs.Schemas.{current}
use Rattle.oc_model.specs.SchemaSteps.{is_called}
use Rattle.oc_refactor.proofs.fields.own_field.Given as goal

abbrev pub invariant-loop-field : goal.invariant-loop-field
invariant-loop-field l = find (is_called l.name) (current (drop l.field-index l.fields)) ≡ find (is_called l.name) (current l.fields)
