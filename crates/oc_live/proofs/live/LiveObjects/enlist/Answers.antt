use Rattle.std.proofs.Common.{◌≡◌, is_some, true, sym, ap, ◌∙◌, subst, List}
use Rattle.oc_model.specs.Maps.{at}
use Rattle.oc_refs.specs.declared.table.Ref.{Ref}
use Rattle.oc_machine.specs.Memory.{number_at}
use Rattle.oc_live.specs.Memories.{Memory, with_changed, numbered, handle_in}
use Rattle.oc_live.specs.Joined.{memory_in, AreJoined}
use Rattle.oc_live.proofs.Joining.{live_there}
use Rattle.oc_live.proofs.Enlisting.{no_triple, free_number, more_joined, more_seen}
use Rattle.oc_live.proofs.live.LiveObjects.enlist.Goals as goal

pub insert-requires-clause-number : goal.insert-requires-clause-number
insert-requires-clause-number c =
    free_number c.self.inside.heap c.self.inside.refs c.self.invariant c.args.number (ap (λ (m : Memory). handle_in m.live c.args.number) c.self.view_is ∙ c.requires.free)

pub insert-requires-clause-handle : goal.insert-requires-clause-handle
insert-requires-clause-handle c =
    no_triple c.self.inside.heap c.self.inside.refs c.self.invariant c.args.handle (ap (λ (m : Memory). number_at (at m.live c.args.handle)) c.self.view_is ∙ c.requires.unsaved)

pub invariant_of-self-2 : goal.invariant_of-self-2
invariant_of-self-2 c =
    let m = c.self.inside in
    let r : Ref = record { number = c.args.number; handle = c.args.handle; active = c.args.active } in
    let free = free_number m.heap m.refs c.self.invariant c.args.number (ap (λ (m : Memory). handle_in m.live c.args.number) c.self.view_is ∙ c.requires.free) in
    let lone = no_triple m.heap m.refs c.self.invariant c.args.handle (ap (λ (m : Memory). number_at (at m.live c.args.handle)) c.self.view_is ∙ c.requires.unsaved) in
    let live : is_some (at m.heap.live c.args.handle) ≡ true = sym (live_there m.refs m.heap.live c.args.handle) ∙ ap (λ (m : Memory). is_some (at m.live c.args.handle)) c.self.view_is ∙ c.requires.live in
    subst (λ (k : List Ref). AreJoined m.heap k) (sym c.in_ok-insert.ensures.ok) (more_joined m.heap m.refs c.self.invariant r free lone live)

pub returns-clause-ok : goal.returns-clause-ok
returns-clause-ok c =
    let m = c.self.inside in
    let r : Ref = record { number = c.args.number; handle = c.args.handle; active = c.args.active } in
    let lone = no_triple m.heap m.refs c.self.invariant c.args.handle (ap (λ (m : Memory). number_at (at m.live c.args.handle)) c.self.view_is ∙ c.requires.unsaved) in
    let live : is_some (at m.heap.live c.args.handle) ≡ true = sym (live_there m.refs m.heap.live c.args.handle) ∙ ap (λ (m : Memory). is_some (at m.live c.args.handle)) c.self.view_is ∙ c.requires.live in
    ap (λ (k : List Ref). memory_in m.heap k m.names m.settings m.commits) c.in_ok-insert.ensures.ok
    ∙ more_seen m.heap m.refs c.self.invariant m.names m.settings m.commits r lone live
    ∙ ap (λ (k : Memory). with_changed k c.args.handle (numbered c.args.number c.args.active)) c.self.view_is
