use Rattle.std.proofs.Common.{◌≡◌}
use Rattle.oc_model.specs.Schemas.{is_sub}
use Rattle.oc_schema.proofs.draft.Draft.is_sub.Given as goal

abbrev pub invariant-loop-class : goal.invariant-loop-class
invariant-loop-class l = is_sub l.self l.class l.b ≡ is_sub l.self l.a l.b

abbrev pub decreases-loop-class : goal.decreases-loop-class
decreases-loop-class l = l.class
