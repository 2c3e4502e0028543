use Rattle.std.proofs.Common.{ap, ◌∙◌, rules}
use Rattle.indexmap.proofs.CallerLemmas.{filter-RetainsPairs}
use Rattle.oc_machine.specs.Memory.{without_name}
use Rattle.oc_live.proofs.Naming.{named, unbound}
use Rattle.oc_live.proofs.names.Names.unbind.Goals as goal

pub returns : goal.returns
returns c =
    ap (named (λ v. v.items)) (filter-RetainsPairs _ _ _ (λ k v b w g call. search rules) _ _ c.retain.ensures.filtered)
    ∙ unbound (λ v. v.items) c.self.inside.handles.entries c.as_slice-name.result.now
    ∙ (λ i. without_name (c.self.view_is i) (c.as_slice-name.ensures i))
