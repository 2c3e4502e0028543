use Rattle.std.proofs.Common.{◌≡◌, is_some, true, sym, ap, ◌∙◌, subst}
use Rattle.oc_model.specs.Maps.{at}
use Rattle.oc_model.specs.Stores.{entered}
use Rattle.oc_heap.specs.Heaps.{Objects}
use Rattle.oc_live.specs.Memories.{Memory, with_changed, refilled}
use Rattle.oc_live.specs.Joined.{memory_in, AreJoined}
use Rattle.oc_live.proofs.Joining.{live_there, filled_seen, filled_joined}
use Rattle.oc_live.proofs.live.LiveObjects.set_field.Goals as goal

pub set_field-requires : goal.set_field-requires
set_field-requires c = sym (live_there c.self.inside.refs c.self.inside.heap.live c.args.handle) ∙ ap (λ (m : Memory). is_some (at m.live c.args.handle)) c.self.view_is ∙ c.requires

pub invariant_of-self-2 : goal.invariant_of-self-2
invariant_of-self-2 c =
    let live : is_some (at c.self.inside.heap.live c.args.handle) ≡ true = sym (live_there c.self.inside.refs c.self.inside.heap.live c.args.handle) ∙ ap (λ (m : Memory). is_some (at m.live c.args.handle)) c.self.view_is ∙ c.requires in
    subst (λ (k : Objects). AreJoined k c.self.inside.refs) (sym c.in_ok-set_field.ensures.ok) (filled_joined c.self.inside.heap c.self.inside.refs c.args.handle (entered c.args.entry) live c.self.invariant)

pub returns-clause-ok : goal.returns-clause-ok
returns-clause-ok c =
    let m = c.self.inside in
    let live : is_some (at m.heap.live c.args.handle) ≡ true = sym (live_there m.refs m.heap.live c.args.handle) ∙ ap (λ (m : Memory). is_some (at m.live c.args.handle)) c.self.view_is ∙ c.requires in
    ap (λ (k : Objects). memory_in k m.refs m.names m.settings m.commits) c.in_ok-set_field.ensures.ok
    ∙ filled_seen m.heap m.refs m.names m.settings m.commits c.args.handle (entered c.args.entry) live
    ∙ ap (λ (k : Memory). with_changed k c.args.handle (refilled (entered c.args.entry))) c.self.view_is
