use Rattle.std.proofs.Common.{◌≡◌, drop}
use Rattle.std.specs.List.{list_all}
use Rattle.oc_store.proofs.segments.all_suit.Given as goal

abbrev pub invariant-loop-entry : goal.invariant-loop-entry
invariant-loop-entry g l = list_all (g.E.Listed.suits l.schema) (drop l.entry-index l.entries) ≡ list_all (g.E.Listed.suits l.schema) l.entries
