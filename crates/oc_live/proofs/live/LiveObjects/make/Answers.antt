use Rattle.std.proofs.Common.{sym, ap, ◌∙◌, subst}
use Rattle.oc_heap.specs.Heaps.{Objects}
use Rattle.oc_live.specs.Memories.{Memory, unsaved, with_new}
use Rattle.oc_live.specs.Joined.{memory_in, AreJoined}
use Rattle.oc_live.proofs.Joining.{new_seen, new_joined}
use Rattle.oc_live.proofs.live.LiveObjects.make.Goals as goal

pub invariant_of-self-2 : goal.invariant_of-self-2
invariant_of-self-2 c = subst (λ (k : Objects). AreJoined k c.self.inside.refs) (sym c.in_ok-handle.ensures.ok) (new_joined c.self.inside.heap c.self.inside.refs c.args.class c.self.invariant)

pub returns-clause-ok : goal.returns-clause-ok
returns-clause-ok c =
    let m = c.self.inside in
    ap (λ (k : Objects). memory_in k m.refs m.names m.settings m.commits) c.in_ok-handle.ensures.ok
    ∙ new_seen m.heap m.refs m.names m.settings m.commits c.args.class c.self.invariant
    ∙ ap (λ (k : Memory). with_new k (unsaved c.args.class)) c.self.view_is
