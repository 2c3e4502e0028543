use Rattle.std.proofs.Common.{◌≡◌, [], drop, take}
use Rattle.oc_machine.specs.Values.{checked}
use Rattle.oc_container.specs.Givens.{names_back, verdict}
use Rattle.oc_container.specs.Outlined.{outlined}
use Rattle.oc_container.proofs.checking.check.Given as goal

abbrev pub invariant-loop-place : goal.invariant-loop-place
invariant-loop-place l = verdict (checked (outlined l.store l.live) l.class (names_back (take l.place l.givens)) (drop l.place l.givens)) ≡ verdict (checked (outlined l.store l.live) l.class [] l.givens)
