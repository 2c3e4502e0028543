use Rattle.std.proofs.Common.{◌≡◌, true, false, nat_le, sym, ◌∙◌, arith}
use Rattle.std.proofs.lemmas.Bool.Decides.{nat_tests}
use Rattle.oc_container.proofs.Listed.{class_listed, none_listed}
use Rattle.oc_container.proofs.values.class_of.Goals as goal

pub returns-then-number-from-clause-class : goal.returns-then-number-from-clause-class
returns-then-number-from-clause-class c =
    let small : nat_le c.args.number 4294967295 ≡ true = grind (arith, nat_tests, c.if-number-from.true, c.from.ensures) in
    c.class_of.ensures.class ∙ sym (class_listed c.args.store.now c.args.number small)

pub returns-else-number-from-clause-class : goal.returns-else-number-from-clause-class
returns-else-number-from-clause-class c =
    let large : nat_le c.args.number 4294967295 ≡ false = grind (arith, nat_tests, c.if-number-from.false, c.from.ensures) in
    sym (none_listed c.args.store.now c.args.number large)
