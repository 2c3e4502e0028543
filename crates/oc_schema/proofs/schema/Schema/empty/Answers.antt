-- No class has a name.
use Rattle.std.proofs.Common.{refl, sym, subst}
use Rattle.oc_schema.specs.Drafts.{IsKept}
use Rattle.oc_schema.proofs.Parting.{empty_keeps}
use Rattle.oc_schema.proofs.schema.Schema.empty.Goals as goal

pub invariant_of-result : goal.invariant_of-result
invariant_of-result c =
    subst (λ s. IsKept s c.new.result) (sym c.empty.ensures)
    (subst (λ t. IsKept _ t) (sym c.new.ensures) (record { rules = empty_keeps; table = λ name. refl }))
