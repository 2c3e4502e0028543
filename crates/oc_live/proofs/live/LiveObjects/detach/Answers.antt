use Rattle.std.proofs.Common.{◌≡◌, is_some, true, sym, ap, ◌∙◌, subst, List}
use Rattle.oc_model.specs.Maps.{at}
use Rattle.oc_refs.specs.declared.table.Ref.{Ref}
use Rattle.oc_machine.specs.Memory.{detached}
use Rattle.oc_live.specs.Memories.{Memory, with_changed}
use Rattle.oc_live.specs.Joined.{memory_in, AreJoined}
use Rattle.oc_live.proofs.Joining.{live_there}
use Rattle.oc_live.proofs.Enlisting.{released_joined, released_seen}
use Rattle.oc_live.proofs.live.LiveObjects.detach.Goals as goal

pub invariant_of-self : goal.invariant_of-self
invariant_of-self c =
    let m = c.self.inside in
    subst (λ (k : List Ref). AreJoined m.heap k) (sym c.release.ensures) (released_joined m.heap m.refs c.self.invariant c.args.handle)

pub returns : goal.returns
returns c =
    let m = c.self.inside in
    let live : is_some (at m.heap.live c.args.handle) ≡ true = sym (live_there m.refs m.heap.live c.args.handle) ∙ ap (λ (k : Memory). is_some (at k.live c.args.handle)) c.self.view_is ∙ c.requires in
    ap (λ (k : List Ref). memory_in m.heap k m.names m.settings m.commits) c.release.ensures
    ∙ released_seen m.heap m.refs c.self.invariant m.names m.settings m.commits c.args.handle live
    ∙ ap (λ (k : Memory). with_changed k c.args.handle detached) c.self.view_is
