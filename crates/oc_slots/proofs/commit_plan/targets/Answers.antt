use Rattle.std.proofs.Common.{◌<◌, ◌^◌, length, take, rules, arith}
use Rattle.std.proofs.lemmas.List.{length-take}
use Rattle.oc_slots.proofs.PlanLengths.{writes_few}
use Rattle.oc_slots.proofs.commit_plan.targets.Goals as goal

pub overflow_add-count : goal.overflow_add-count
overflow_add-count c =
    let small : length c.args.pointings.now < 2 ^ 58 = search rules in
    omega (arith, small, c.loop-pointing.invariant, writes_few (take c.loop-pointing.pointing-index c.args.pointings.now), length-take c.loop-pointing.pointing-index c.args.pointings.now)

pub returns-clause-few : goal.returns-clause-few
returns-clause-few c =
    let small : length c.args.pointings.now < 2 ^ 58 = search rules in
    omega (arith, small, c.loop-pointing.invariant, writes_few (take c.loop-pointing.pointing-index c.args.pointings.now), length-take c.loop-pointing.pointing-index c.args.pointings.now)
