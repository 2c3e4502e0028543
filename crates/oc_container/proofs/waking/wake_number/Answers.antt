use Rattle.std.proofs.Common.{refl, false, is_some, sym, ap, ◌∙◌, subst}
use Rattle.oc_machine.specs.Memory.{number_at}
use Rattle.oc_live.specs.Memories.{Memory, handle_in, numbered, unsaved}
use Rattle.oc_container.specs.Woken.{stub, HasMore}
use Rattle.oc_container.proofs.MoreLive.{changed_at, new_at, no_more, none_is, none_numbered, one_more, woken_new}
use Rattle.oc_container.proofs.waking.wake_number.Goals as goal

pub returns-then-is_some-clause-more : goal.returns-then-is_some-clause-more
returns-then-is_some-clause-more c = no_more c.args.live.now

pub returns-in_err-handle-clause-more : goal.returns-in_err-handle-clause-more
returns-in_err-handle-clause-more c = subst (HasMore c.args.live.now) (sym c.in_err-handle.ensures.err) (no_more c.args.live.now)

pub enlist-requires-clause-live : goal.enlist-requires-clause-live
enlist-requires-clause-live c = ap is_some (new_at c.args.live.now c.make.new.self (unsaved c.args.class) c.in_ok-handle.handle c.in_ok-handle.ensures.ok c.in_ok-handle.ensures.handle)

pub enlist-requires-clause-unsaved : goal.enlist-requires-clause-unsaved
enlist-requires-clause-unsaved c = ap number_at (new_at c.args.live.now c.make.new.self (unsaved c.args.class) c.in_ok-handle.handle c.in_ok-handle.ensures.ok c.in_ok-handle.ensures.handle)

pub enlist-requires-clause-free : goal.enlist-requires-clause-free
enlist-requires-clause-free c =
    let k = c.args.live.now in
    ap (λ (m : Memory). handle_in m.live c.args.number) c.in_ok-handle.ensures.ok ∙ none_numbered k (unsaved c.args.class) c.args.number refl (none_is _ _ _ c.handle_of.ensures c.is_some.ensures c.if-is_some.false)

pub returns-in_err-enlist-clause-more : goal.returns-in_err-enlist-clause-more
returns-in_err-enlist-clause-more c =
    let k = c.args.live.now in subst (HasMore k) (sym (c.in_err-enlist.ensures.err ∙ c.in_ok-handle.ensures.ok)) (one_more k (unsaved c.args.class))

pub returns-clause-woken : goal.returns-clause-woken
returns-clause-woken c =
    let k = c.args.live.now in
    changed_at k c.make.new.self c.enlist.new.self (unsaved c.args.class) c.in_ok-handle.handle (numbered c.args.number false) c.in_ok-handle.ensures.ok c.in_ok-handle.ensures.handle c.in_ok-enlist.ensures.ok
    ∙ sym (woken_new k c.args.number c.args.class (none_is _ _ _ c.handle_of.ensures c.is_some.ensures c.if-is_some.false))

pub returns-clause-more : goal.returns-clause-more
returns-clause-more c =
    let k = c.args.live.now in
    subst (HasMore k)
    (sym (changed_at k c.make.new.self c.enlist.new.self (unsaved c.args.class) c.in_ok-handle.handle (numbered c.args.number false) c.in_ok-handle.ensures.ok c.in_ok-handle.ensures.handle c.in_ok-enlist.ensures.ok))
    (one_more k (stub c.args.number c.args.class))
