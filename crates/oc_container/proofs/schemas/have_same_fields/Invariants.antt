use Rattle.std.proofs.Common.{◌≡◌, drop}
use lib.Pointwise.{pointwise}
use Rattle.oc_model.specs.SchemaEquality.{same_field}
use Rattle.oc_container.proofs.schemas.have_same_fields.Given as goal

abbrev pub invariant-loop-index : goal.invariant-loop-index
invariant-loop-index l = pointwise same_field (drop l.index l.a) (drop l.index l.b) ≡ pointwise same_field l.a l.b
