use Rattle.std.proofs.Common.{◌≡◌, drop}
use Rattle.oc_machine.specs.Values.{singles_found}
use Rattle.oc_container.specs.Outlined.{outlined}
use Rattle.oc_container.proofs.values.find_singles.Given as goal

abbrev pub invariant-loop-single : goal.invariant-loop-single
invariant-loop-single l = singles_found (outlined l.store l.live) (drop l.single-index l.singles) ≡ singles_found (outlined l.store l.live) l.singles
