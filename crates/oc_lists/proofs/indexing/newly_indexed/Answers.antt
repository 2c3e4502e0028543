use Rattle.std.proofs.Common.{◌≡◌, ◌++◌, ◌∙◌, ap, arith, drop, filter, get_or, length, not, ◌<◌, ◌+◌}
use Rattle.oc_model.specs.declared.value.Base.TheVariants as base
use Rattle.oc_lists.specs.Following.{has_index}
use Rattle.oc_lists.proofs.Ended.{added_turn}
use Rattle.oc_lists.proofs.indexing.newly_indexed.Goals as goal

pub loop-id-preserved : goal.loop-id-preserved
loop-id-preserved c =
    let s = c.args.old.now in
    let es = c.deref-id-items.result.now in
    let i = c.loop-id.id-index in
    let e = get_or es i (0, base.Bool) in
    ap (λ l. l ++ filter (λ e. not (has_index s e.0)) (drop (i + 1) es)) c.in_ok-push_unless.ensures
    ∙ added_turn (has_index s) es i (0, base.Bool) (omega arith) c.has_base.result (c.has_base.ensures ∙ c.in_ok-before.ensures.keys e.0) c.loop-id.added.items
    ∙ c.loop-id.invariant
