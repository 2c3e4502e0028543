use Rattle.std.proofs.Common.{refl}
use Rattle.std.specs.Prelude.{IsSome}
use Rattle.oc_slots.specs.Stores.{session_place}
use Rattle.oc_slots.proofs.Numbers.{none_in, there_more, there_whole}
use Rattle.oc_slots.proofs.store.SlotStore.only_there.Goals as goal

pub loop-number-init : goal.loop-number-init
loop-number-init c n = none_in c.new-there.result.items n (IsSome (session_place c.args.self.now (record { space = c.args.space; number = n }))) c.new-there.ensures.items

pub loop-number-preserved : goal.loop-number-preserved
loop-number-preserved c n =
    there_more (λ m. IsSome (session_place c.args.self.now (record { space = c.args.space; number = m }))) c.args.numbers.now c.loop-number.number-index _ c.loop-number-test.true refl
    c.loop-number.there.items c.put_if_there.new.there.items n (c.loop-number.invariant n) (c.in_ok-put_if_there.ensures n)

pub returns : goal.returns
returns c n = there_whole (λ m. IsSome (session_place c.args.self.now (record { space = c.args.space; number = m }))) c.args.numbers.now c.loop-number.number-index c.loop-number-test.false c.loop-number.there.items n (c.loop-number.invariant n)
