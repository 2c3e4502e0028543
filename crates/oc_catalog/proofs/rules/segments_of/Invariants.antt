use Rattle.std.proofs.Common.{◌≡◌, ◌++◌, drop}
use Rattle.oc_catalog.specs.Catalogs.{segments_of}
use Rattle.oc_catalog.proofs.rules.segments_of.Given as goal

abbrev pub invariant-loop-list : goal.invariant-loop-list
invariant-loop-list l = l.segments.items ++ segments_of (drop l.list-index l.lists) ≡ segments_of l.lists
