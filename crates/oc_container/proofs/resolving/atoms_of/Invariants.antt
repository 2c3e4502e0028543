use Rattle.std.proofs.Common.{◌≡◌, ◌++◌, drop, flat_map, map}
use Rattle.oc_machine.specs.Values.{atom_of, numbers_in_single}
use Rattle.oc_container.specs.Givens.{AreNumbers}
use Rattle.oc_container.specs.Outlined.{remembered}
use Rattle.oc_container.proofs.resolving.atoms_of.Given as goal

abbrev pub invariant-loop-single : goal.invariant-loop-single
invariant-loop-single l =
    record {
      atoms : l.atoms ++ map (atom_of (remembered l.live) l.base) (drop l.single-index l.singles) ≡ map (atom_of (remembered l.live) l.base) l.singles;
      numbers : AreNumbers (flat_map numbers_in_single (drop l.single-index l.singles));
    }
