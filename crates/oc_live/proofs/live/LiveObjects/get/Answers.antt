use Rattle.std.proofs.Common.{ap, ◌∙◌, option_map}
use Rattle.oc_model.specs.Maps.{at}
use Rattle.oc_live.specs.Memories.{Memory, held_of}
use Rattle.oc_live.proofs.Enlisting.{held_there}
use Rattle.oc_live.proofs.live.LiveObjects.get.Goals as goal

pub returns : goal.returns
returns c =
    c.get.ensures ∙ held_there c.self.inside.refs c.self.inside.heap.live c.args.handle
    ∙ ap (λ (m : Memory). option_map held_of (at m.live c.args.handle)) c.self.view_is
