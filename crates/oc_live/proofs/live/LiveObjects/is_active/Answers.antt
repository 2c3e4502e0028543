use Rattle.std.proofs.Common.{ap, sym, ◌∙◌, option_map, is_some, Some, None}
use Rattle.oc_model.specs.Maps.{at}
use Rattle.oc_live.specs.Memories.{Memory}
use Rattle.oc_live.proofs.Enlisting.{active_is}
use Rattle.oc_live.proofs.live.LiveObjects.is_active.Goals as goal

pub returns-in-Some : goal.returns-in-Some
returns-in-Some c =
    active_is c.self.inside.refs c.self.inside.heap.live c.args.handle (Some c.in-Some.triple) (sym c.in-Some.ensures) (ap (λ (m : Memory). is_some (at m.live c.args.handle)) c.self.view_is ∙ c.requires)
    ∙ ap (λ (m : Memory). option_map (λ o. o.active) (at m.live c.args.handle)) c.self.view_is

pub returns-in-None : goal.returns-in-None
returns-in-None c =
    active_is c.self.inside.refs c.self.inside.heap.live c.args.handle None (sym c.in-None.ensures) (ap (λ (m : Memory). is_some (at m.live c.args.handle)) c.self.view_is ∙ c.requires)
    ∙ ap (λ (m : Memory). option_map (λ o. o.active) (at m.live c.args.handle)) c.self.view_is
