use Rattle.std.proofs.Common.{◌≡◌, ◌+◌, arith}
use Rattle.std.proofs.lemmas.Bool.Decides.{nat_tests}
use Rattle.oc_layout.specs.Layout.{blocks}
use Rattle.oc_slots.proofs.Apart.{ends_before}
use Rattle.oc_slots.proofs.run.from.Goals as goal

pub returns-in-Some-clause-begins : goal.returns-in-Some-clause-begins
returns-in-Some-clause-begins c =
    let on : c.in-Some.before.at + blocks c.args.unit c.in-Some.before.len ≡ c.args.cell.at = grind (arith, nat_tests, c.touch.ensures, c.if-touch.true) in
    ends_before c.args.unit c.in-Some.before.at c.in-Some.before.len c.args.cell.at c.requires.unit (omega (arith, on))
