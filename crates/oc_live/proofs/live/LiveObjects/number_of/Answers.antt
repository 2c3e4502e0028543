use Rattle.std.proofs.Common.{◌≡◌, ap, ◌∙◌, option_map, rules}
use Rattle.oc_model.specs.Maps.{at}
use Rattle.oc_refs.specs.declared.table.Ref.{Ref}
use Rattle.oc_machine.specs.Memory.{number_at}
use Rattle.oc_live.specs.Memories.{Memory}
use Rattle.oc_live.proofs.Enlisting.{number_is}
use Rattle.oc_live.proofs.live.LiveObjects.number_of.Goals as goal

pub returns : goal.returns
returns c =
    let mapped : c.map.result ≡ option_map (λ (r : Ref). r.number) c.by_handle.result = search (rules, c.map.ensures.cases) in
    mapped ∙ ap (option_map (λ (r : Ref). r.number)) c.by_handle.ensures
    ∙ number_is c.self.inside.heap c.self.inside.refs c.self.invariant c.args.handle
    ∙ ap (λ (m : Memory). number_at (at m.live c.args.handle)) c.self.view_is
