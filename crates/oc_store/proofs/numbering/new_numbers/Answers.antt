use Rattle.std.proofs.Common.{◌<◌, ◌≤◌, length, arith}
use Rattle.oc_store.proofs.FreeNumbers.{free_least, free_next}
use Rattle.oc_store.proofs.numbering.new_numbers.Goals as goal

pub returns-then-len-count-clause-least : goal.returns-then-len-count-clause-least
returns-then-len-count-clause-least c = free_least c.args.used.now c.args.count c.loop-number.number c.loop-number.numbers.items c.loop-number.invariant.0

pub loop-number-preserved : goal.loop-number-preserved
loop-number-preserved c =
    let from : 2 ≤ c.loop-number.number = c.loop-number.auto.number in
    let to : c.loop-number.number ≤ 2147483646 = omega (arith, c.loop-number-test.true) in
    let some : length c.loop-number.numbers.items < c.args.count = omega (arith, c.if-len-count.false, c.len.ensures, c.loop-number.invariant.0.few) in
    (free_next c.args.used.now c.args.count c.loop-number.number c.loop-number.numbers.items c.loop-number.invariant.0 c.push_free.new.numbers.items from to some c.in_ok-place.ensures.numbers, c.in_ok-place.ensures.place)

pub returns-clause-least : goal.returns-clause-least
returns-clause-least c = free_least c.args.used.now c.args.count c.loop-number.number c.loop-number.numbers.items c.loop-number.invariant.0
