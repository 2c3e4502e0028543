use Rattle.std.proofs.Common.{is_some, option_map, sym, ap, ◌∙◌, subst, List, true≢false}
use Rattle.oc_model.specs.Maps.{at}
use Rattle.oc_refs.specs.declared.table.Ref.{Ref}
use Rattle.oc_machine.specs.Memory.{number_at}
use Rattle.oc_live.specs.Memories.{Memory, with_changed, turned}
use Rattle.oc_live.specs.Joined.{memory_in, AreJoined}
use Rattle.oc_live.proofs.Enlisting.{number_is, number_there, turned_joined, turned_seen}
use Rattle.oc_live.proofs.live.LiveObjects.set_active.Goals as goal

pub set_active-requires : goal.set_active-requires
set_active-requires c = number_there c.self.inside.heap c.self.inside.refs c.self.invariant c.args.handle c.in-Some.triple (sym c.in-Some.ensures)

pub invariant_of-self : goal.invariant_of-self
invariant_of-self c =
    let m = c.self.inside in
    subst (λ (k : List Ref). AreJoined m.heap k) (sym c.set_active.ensures) (turned_joined m.heap m.refs c.self.invariant c.in-Some.triple.number c.args.active)

pub returns-in-Some : goal.returns-in-Some
returns-in-Some c =
    let m = c.self.inside in
    ap (λ (k : List Ref). memory_in m.heap k m.names m.settings m.commits) c.set_active.ensures
    ∙ turned_seen m.heap m.refs c.self.invariant m.names m.settings m.commits c.args.handle c.in-Some.triple c.args.active (sym c.in-Some.ensures)
    ∙ ap (λ (k : Memory). with_changed k c.args.handle (turned c.args.active)) c.self.view_is

pub returns-in_default : goal.returns-in_default
returns-in_default c =
    let m = c.self.inside in
    absurd (true≢false (sym c.requires ∙ sym (ap (λ (k : Memory). is_some (number_at (at k.live c.args.handle))) c.self.view_is)
    ∙ sym (ap is_some (number_is m.heap m.refs c.self.invariant c.args.handle)) ∙ ap (λ t. is_some (option_map (λ (r : Ref). r.number) t)) (sym c.in_default.ensures)))
