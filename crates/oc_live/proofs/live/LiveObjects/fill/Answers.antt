use Rattle.std.proofs.Common.{◌≡◌, is_some, sym, ap, ◌∙◌, true, subst}
use Rattle.oc_model.specs.Maps.{at}
use Rattle.oc_heap.specs.Heaps.{Objects}
use Rattle.oc_live.specs.Memories.{Memory, with_changed, refilled}
use Rattle.oc_live.specs.Joined.{memory_in, AreJoined}
use Rattle.oc_live.proofs.Joining.{live_there, filled_seen, filled_joined}
use Rattle.oc_live.proofs.live.LiveObjects.fill.Goals as goal

pub fill-requires : goal.fill-requires
fill-requires c = sym (live_there c.self.inside.refs c.self.inside.heap.live c.args.handle) ∙ ap (λ (m : Memory). is_some (at m.live c.args.handle)) c.self.view_is ∙ c.requires

pub invariant_of-self : goal.invariant_of-self
invariant_of-self c =
    let live : is_some (at c.self.inside.heap.live c.args.handle) ≡ true = sym (live_there c.self.inside.refs c.self.inside.heap.live c.args.handle) ∙ ap (λ (m : Memory). is_some (at m.live c.args.handle)) c.self.view_is ∙ c.requires in
    subst (λ (k : Objects). AreJoined k c.self.inside.refs) (sym c.fill.ensures) (filled_joined c.self.inside.heap c.self.inside.refs c.args.handle (λ _. c.args.entries) live c.self.invariant)

pub returns : goal.returns
returns c =
    let live : is_some (at c.self.inside.heap.live c.args.handle) ≡ true = sym (live_there c.self.inside.refs c.self.inside.heap.live c.args.handle) ∙ ap (λ (m : Memory). is_some (at m.live c.args.handle)) c.self.view_is ∙ c.requires in
    let m = c.self.inside in
    ap (λ (k : Objects). memory_in k m.refs m.names m.settings m.commits) c.fill.ensures
    ∙ filled_seen m.heap m.refs m.names m.settings m.commits c.args.handle (λ _. c.args.entries) live
    ∙ ap (λ (k : Memory). with_changed k c.args.handle (refilled (λ _. c.args.entries))) c.self.view_is
