use Rattle.std.proofs.Common.{sym, subst}
use Rattle.oc_store.specs.Filed.{Agrees}
use Rattle.oc_container.specs.Contained.{Contained}
use Rattle.oc_container.proofs.Steps.{rollback_meets}
use Rattle.oc_container.proofs.container.Container.rollback.Goals as goal

pub returns-clause-step : goal.returns-clause-step
returns-clause-step c = λ disk m h.
    rollback_meets c.args.self.now _ _ _ _ disk m (sym c.self.view_is) h (c.rollback.ensures.shows disk m.committed m.session) (c.forget_lost.ensures.memory disk m.committed m.session) (c.ends_are_the_states.ensures.rolled_back m)

pub returns-clause-agrees : goal.returns-clause-agrees
returns-clause-agrees c = λ disk agrees. c.rollback.ensures.agrees disk (subst (λ (v : Contained). Agrees v.store disk) (sym c.self.view_is) agrees)
