use Rattle.std.proofs.Common.{◌≡◌, ◌++◌, drop}
use Rattle.oc_lists.specs.Lists.{bases_in}
use Rattle.oc_lists.proofs.IndexedKinds.{bases_of_classes}
use Rattle.oc_lists.proofs.bases.pairs_of.Given as goal

abbrev pub invariant-loop-place : goal.invariant-loop-place
invariant-loop-place l = l.pairs.items ++ bases_of_classes (drop l.place l.schema.classes) ≡ bases_in l.schema
