use Rattle.std.proofs.Common.{is_some, sym, ap, ◌∙◌, subst}
use Rattle.oc_live.specs.Memories.{refilled, unsaved, with_new}
use Rattle.oc_container.specs.Made.{unsaved_with}
use Rattle.oc_container.specs.Woken.{HasMore}
use Rattle.oc_container.proofs.MoreLive.{changed_at, new_at, no_more, one_more}
use Rattle.oc_container.proofs.making.make_object.Goals as goal

pub returns-in_err-handle-clause-more : goal.returns-in_err-handle-clause-more
returns-in_err-handle-clause-more c = subst (HasMore c.args.live.now) (sym c.in_err-handle.ensures.err) (no_more c.args.live.now)

pub fill-requires : goal.fill-requires
fill-requires c = ap is_some (new_at c.args.live.now c.make.new.self (unsaved c.args.class) c.in_ok-handle.handle c.in_ok-handle.ensures.ok c.in_ok-handle.ensures.handle)

pub returns-clause-made : goal.returns-clause-made
returns-clause-made c =
    let k = c.args.live.now in
    changed_at k c.make.new.self c.fill.new.self (unsaved c.args.class) c.in_ok-handle.handle (refilled (λ _. c.from_vec.result)) c.in_ok-handle.ensures.ok c.in_ok-handle.ensures.handle c.fill.ensures
    ∙ ap (λ es. with_new k (unsaved_with c.args.class es)) c.from_vec.ensures

pub returns-clause-more : goal.returns-clause-more
returns-clause-more c =
    let k = c.args.live.now in
    subst (HasMore k)
    (sym (changed_at k c.make.new.self c.fill.new.self (unsaved c.args.class) c.in_ok-handle.handle (refilled (λ _. c.from_vec.result)) c.in_ok-handle.ensures.ok c.in_ok-handle.ensures.handle c.fill.ensures))
    (one_more k (unsaved_with c.args.class c.from_vec.result))
