use Rattle.std.proofs.Common.{◌∙◌, ◌++◌, sym, ap}
use Rattle.oc_slots.specs.Slots.{length_list}
use Rattle.oc_slots.proofs.PlacedSlots.{lengths_more, lengths_whole}
use Rattle.oc_slots.proofs.preparing.lengths_of.Goals as goal

pub loop-change-preserved : goal.loop-change-preserved
loop-change-preserved c =
    c.in_ok-push_length.ensures ∙ ap (λ l. l ++ length_list c.change-item.result.bytes) c.loop-change.invariant
    ∙ sym (lengths_more c.args.changes.now c.loop-change.change-index c.change-item.result c.loop-change-test.true c.change-item.is)

pub returns : goal.returns
returns c = c.loop-change.invariant ∙ lengths_whole c.args.changes.now c.loop-change.change-index c.loop-change-test.false
