use Rattle.std.proofs.Common.{◌∙◌}
use Rattle.oc_machine.specs.Memory.{bound}
use Rattle.oc_live.proofs.Naming.{bound_is}
use Rattle.oc_live.proofs.names.Names.handle.Goals as goal

pub returns : goal.returns
returns c =
    c.copied.ensures ∙ c.get.ensures.value
    ∙ bound_is (λ v. v.items) c.self.inside.handles.entries c.as_slice.result.now
    ∙ (λ i. bound (c.self.view_is i) (c.as_slice.ensures i))
