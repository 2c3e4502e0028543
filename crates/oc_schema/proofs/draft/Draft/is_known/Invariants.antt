use Rattle.std.proofs.Common.{◌≡◌}
use Rattle.oc_model.specs.StoreRules.{is_known}
use Rattle.oc_schema.proofs.draft.Draft.is_known.Given as goal

abbrev pub invariant-loop-at : goal.invariant-loop-at
invariant-loop-at l = is_known l.self l.at l.entry ≡ is_known l.self l.class l.entry

abbrev pub decreases-loop-at : goal.decreases-loop-at
decreases-loop-at l = l.at
