use Rattle.std.proofs.Common.{◌≡◌, true, false, refl, if◌then◌else◌}
use Rattle.oc_model.specs.Nodes.{is_stored}
use Rattle.oc_model.specs.SchemaEquality.{differs}
use Rattle.oc_machine.specs.Memory.{with_all, detached}
use Rattle.oc_machine.specs.CommitLines.{rollback_step, rolled_back, forgotten, is_lost, settings_in}
use Rattle.oc_live.specs.Memories.{memory_of, cleared}
use Rattle.oc_live.specs.Kept.{with_kept}
use Rattle.oc_live.proofs.laws.ends_are_the_states.Goals as goal

pub returns-clause-rolled_back : goal.returns-clause-rolled_back
unfolding rollback_step
returns-clause-rolled_back c = λ m.
    elim (differs m.session.schema m.committed.schema) as (λ b. memory_of (rolled_back (if b then forgotten m else with_all (λ h o. is_lost m.committed o) detached m))
    ≡ (if b then record (cleared (memory_of m)) { settings = settings_in m.committed.schema m.settings } else with_kept (is_stored m.committed) (memory_of m))) [ true ↦ refl | false ↦ refl ]
