use Rattle.std.proofs.Common.{◌≡◌, Option, None, Some, Bor, is_some, refl, sym, ap, ◌∙◌}
use Rattle.std.specs.Option.{option_copied}
use Rattle.oc_model.specs.Maps.{at}
use Rattle.oc_live.specs.Memories.{Memory}
use Rattle.oc_live.proofs.Joining.{live_there}
use Rattle.oc_live.proofs.live.LiveObjects.is_live.Goals as goal

same_side : {X : Type 0} (o : Option (Bor X)) → is_some o ≡ is_some (option_copied o)
same_side None = refl
same_side (Some x) = refl

pub returns : goal.returns
returns c =
    c.is_some.ensures ∙ same_side c.get.result ∙ ap is_some c.get.ensures
    ∙ sym (live_there c.self.inside.refs c.self.inside.heap.live c.args.handle)
    ∙ ap (λ (m : Memory). is_some (at m.live c.args.handle)) c.self.view_is
