use Rattle.std.proofs.Common.{◌≡◌, drop, map}
use Rattle.std.specs.List.{list_all}
use Rattle.oc_model.specs.States.{State}
use Rattle.oc_model.specs.Values.{fits_base}
use Rattle.oc_machine.specs.Values.{atom_of}
use Rattle.oc_container.proofs.values.fits_singles.Given as goal

abbrev pub invariant-loop-single : goal.invariant-loop-single
invariant-loop-single l = (m : State) → list_all (fits_base l.base) (map (atom_of m l.base) (drop l.single-index l.singles)) ≡ list_all (fits_base l.base) (map (atom_of m l.base) l.singles)
