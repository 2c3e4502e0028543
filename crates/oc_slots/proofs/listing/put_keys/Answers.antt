use Rattle.std.proofs.Common.{◌∙◌, ◌++◌, [], ◌∷◌, sym, arith, append-nil}
use Rattle.oc_slots.proofs.Numbers.{keys_more, keys_whole}
use Rattle.oc_slots.proofs.listing.put_keys.Goals as goal

pub loop-index-init : goal.loop-index-init
loop-index-init c = sym (append-nil c.args.numbers.now.items)

pub loop-index-preserved : goal.loop-index-preserved
loop-index-preserved c =
    c.in_ok-push.ensures.items ∙ (λ i. c.loop-index.invariant i ++ c.key_at.ensures i ∷ [])
    ∙ keys_more c.args.numbers.now.items c.args.changes.now.entries c.loop-index.index (omega (arith, c.loop-index-test.true, c.len-index-end.ensures.len))

pub returns : goal.returns
returns c = c.loop-index.invariant ∙ keys_whole c.args.numbers.now.items c.args.changes.now.entries c.loop-index.index (omega (arith, c.loop-index-test.false, c.len-index-end.ensures.len))
