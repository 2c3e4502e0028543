use Rattle.std.proofs.Common.{◌≡◌, ◌++◌, drop}
use Rattle.oc_container.specs.Givens.{numbers_named}
use Rattle.oc_container.proofs.numbers.numbers_as_written.Given as goal

abbrev pub invariant-loop-given : goal.invariant-loop-given
invariant-loop-given l = l.numbers.items ++ numbers_named (drop l.given-index l.givens) ≡ numbers_named l.givens
