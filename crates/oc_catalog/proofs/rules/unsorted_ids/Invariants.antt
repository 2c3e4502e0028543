use Rattle.std.proofs.Common.{◌≡◌, ◌++◌, ◌∷◌, drop}
use Rattle.oc_catalog.specs.Catalogs.{indexed_ids}
use Rattle.oc_catalog.proofs.rules.unsorted_ids.Given as goal

abbrev pub invariant-loop-class : goal.invariant-loop-class
invariant-loop-class l = l.ids.items ++ indexed_ids (drop l.class-index l.classes) ≡ 0 ∷ indexed_ids l.classes
