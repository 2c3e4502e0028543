use Rattle.std.proofs.Common.{◌≡◌, drop}
use Rattle.std.specs.List.{list_all}
use Rattle.oc_model.specs.StoreRules.{is_known}
use Rattle.oc_schema.proofs.schema.Schema.are_known.Given as goal

abbrev pub invariant-loop-entry : goal.invariant-loop-entry
invariant-loop-entry l = list_all (is_known l.self l.class) (drop l.entry-index l.entries) ≡ list_all (is_known l.self l.class) l.entries
