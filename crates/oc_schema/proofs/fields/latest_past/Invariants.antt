use Rattle.std.proofs.Common.{◌≡◌, drop, fold}
use Rattle.std.specs.Option.{option_copied}
use Rattle.oc_model.specs.SchemaSteps.{later_field, past_fields, past_field}
use Rattle.oc_schema.proofs.fields.latest_past.Given as goal

abbrev pub invariant-loop-field : goal.invariant-loop-field
invariant-loop-field l = fold later_field (option_copied l.latest) (past_fields (drop l.field-index l.fields) l.name l.kind) ≡ past_field l.fields l.name l.kind
