use Rattle.std.proofs.Common.{take, sym, subst}
use Rattle.oc_slots.specs.Slots.{slots_of}
use Rattle.oc_slots.specs.Pieces.{IsPlanned}
use Rattle.oc_slots.proofs.PlacedSlots.{slots_more, slots_whole}
use Rattle.oc_slots.proofs.Plans.{none_planned}
use Rattle.oc_slots.proofs.run.plan.Goals as goal

pub loop-change-init : goal.loop-change-init
loop-change-init c = none_planned c.args.unit c.args.len c.new.result c.new.ensures.items

pub loop-change-preserved : goal.loop-change-preserved
loop-change-preserved c =
    subst (λ l. IsPlanned c.args.unit c.args.len l c.add_change.new.self) (sym (slots_more c.args.placed.now c.loop-change.change-index c.change-item.result c.loop-change-test.true (sym c.change-item.is)))
    (c.in_ok-add_change.ensures c.args.len (slots_of (take c.loop-change.change-index c.args.placed.now)) c.loop-change.invariant)

pub returns : goal.returns
returns c =
    subst (λ l. IsPlanned c.args.unit c.args.len (slots_of l) c.loop-change.planned) (slots_whole c.args.placed.now c.loop-change.change-index c.loop-change-test.false) c.loop-change.invariant
