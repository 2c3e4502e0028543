use Rattle.std.proofs.Common.{subst}
use Rattle.oc_slots.specs.Slots.{cell_list}
use Rattle.oc_slots.specs.Noting.{GoFree}
use Rattle.oc_slots.proofs.Releases.{one_taken}
use Rattle.oc_slots.proofs.rolling_back.release.Goals as goal

pub release-requires-clause-taken : goal.release-requires-clause-taken
release-requires-clause-taken c = one_taken c.args.room.now c.in-Some.cell (subst (λ o. GoFree c.args.room.now (cell_list o)) c.in-Some.is c.requires)
