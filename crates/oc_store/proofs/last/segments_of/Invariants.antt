use Rattle.std.proofs.Common.{◌≡◌, ◌++◌, drop}
use Rattle.oc_catalog.specs.Catalogs.{segments_of}
use Rattle.oc_store.proofs.last.segments_of.Given as goal

abbrev pub invariant-loop-entry : goal.invariant-loop-entry
invariant-loop-entry l = l.numbers.items ++ segments_of (drop l.entry-index l.entries) ≡ segments_of l.entries
