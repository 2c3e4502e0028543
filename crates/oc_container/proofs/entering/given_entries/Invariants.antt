use Rattle.std.proofs.Common.{◌≡◌, [], drop}
use Rattle.oc_machine.specs.Values.{with_given}
use Rattle.oc_container.specs.Givens.{fields_given, numbers_named, AreNumbers}
use Rattle.oc_container.specs.Outlined.{remembered}
use Rattle.oc_container.proofs.entering.given_entries.Given as goal

abbrev pub invariant-loop-given : goal.invariant-loop-given
invariant-loop-given l =
    record {
      entered : with_given (remembered l.live) l.entries.items (fields_given l.schema l.class (drop l.given-index l.givens)) ≡ with_given (remembered l.live) [] (fields_given l.schema l.class l.givens);
      numbers : AreNumbers (numbers_named (drop l.given-index l.givens));
    }
