use Rattle.std.proofs.Common.{◌≡◌, ◌++◌, drop, flat_map}
use Rattle.oc_machine.specs.Values.{numbers_in_single}
use Rattle.oc_container.proofs.numbers.push_singles.Given as goal

abbrev pub invariant-loop-single : goal.invariant-loop-single
invariant-loop-single l = l.numbers.items ++ flat_map numbers_in_single (drop l.single-index l.singles) ≡ l.fn.numbers.items ++ flat_map numbers_in_single l.singles
