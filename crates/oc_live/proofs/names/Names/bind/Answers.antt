use Rattle.std.proofs.Common.{ap, ◌∙◌}
use Rattle.oc_machine.specs.Memory.{with_bound}
use Rattle.oc_live.proofs.Naming.{named, bound_now}
use Rattle.oc_live.proofs.names.Names.bind.Goals as goal

pub returns-clause-ok : goal.returns-clause-ok
returns-clause-ok c =
    ap (named (λ v. v.items)) c.in_ok-insert.ensures.entries
    ∙ bound_now (λ v. v.items) c.self.inside.handles.entries c.in_ok-key.key c.args.handle
    ∙ (λ i. with_bound (c.self.view_is i) ((c.in_ok-key.ensures.items ∙ c.as_slice.ensures) i) c.args.handle)
