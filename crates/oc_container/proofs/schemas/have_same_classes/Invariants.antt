use Rattle.std.proofs.Common.{◌≡◌, drop}
use lib.Pointwise.{pointwise}
use Rattle.oc_model.specs.SchemaEquality.{same_class}
use Rattle.oc_container.proofs.schemas.have_same_classes.Given as goal

abbrev pub invariant-loop-index : goal.invariant-loop-index
invariant-loop-index l = pointwise same_class (drop l.index l.a.classes) (drop l.index l.b.classes) ≡ pointwise same_class l.a.classes l.b.classes
