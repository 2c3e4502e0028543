use Rattle.std.proofs.Common.{◌≡◌, drop}
use Rattle.oc_model.specs.Stores.{entry_of}
use Rattle.oc_graph.proofs.naming.value_of.Given as goal

abbrev pub invariant-loop-entry : goal.invariant-loop-entry
invariant-loop-entry l = entry_of l.id (drop l.entry-index l.entries) ≡ entry_of l.id l.entries
