use Rattle.std.proofs.Common.{◌≡◌, [], drop, map}
use Rattle.oc_model.specs.SchemaSteps.{made_past, unstated_fields}
use Rattle.oc_refactor.specs.ById.{keyed}
use Rattle.oc_refactor.proofs.Ascending.{put_all}
use Rattle.oc_refactor.proofs.past.unstated.Given as goal

abbrev pub invariant-loop-field : goal.invariant-loop-field
invariant-loop-field l = put_all (keyed l.past.items) (map made_past (unstated_fields (drop l.field-index l.own) l.stated)) ≡ put_all [] (map made_past (unstated_fields l.own l.stated))
