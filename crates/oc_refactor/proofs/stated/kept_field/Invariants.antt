use Rattle.std.proofs.Common.{◌≡◌, drop}
use Rattle.oc_model.specs.SchemaSteps.{kept_field}
use Rattle.oc_refactor.proofs.stated.kept_field.Given as goal

abbrev pub invariant-loop-field : goal.invariant-loop-field
invariant-loop-field l = kept_field (drop l.field-index l.own) l.declared ≡ kept_field l.own l.declared
