use Rattle.std.proofs.Common.{sym}
use Rattle.oc_container.proofs.Steps.{commit_meets}
use Rattle.oc_container.proofs.container.Container.commit.Goals as goal

pub returns-in-Ok-clause-step : goal.returns-in-Ok-clause-step
returns-in-Ok-clause-step g c = λ e t m h.
    commit_meets c.args.self.now _ _ _ _ _ _ m _ (sym c.self.view_is) h (c.in-Ok.ensures.shows t m.committed m.session) c.count_commit.ensures c.commits.ensures
