use Rattle.std.proofs.Common.{◌≡◌, inr, ap}
use Rattle.std.specs.Bool.{IsTrue}
use Rattle.std.proofs.lemmas.Result.{on_err_weaker}
use Rattle.oc_model.specs.declared.command.Command.TheVariants as line
use Rattle.oc_container.specs.Contained.{IsSame}
use Rattle.oc_container.specs.Full.{LacksRoom}
use Rattle.oc_container.proofs.Commands.{commit_met, full_and, in_room, looks_stand, never_full, spent_unless}
use Rattle.oc_container.proofs.container.Container.execute.Goals as goal

pub returns-in-Commit-clause-step : goal.returns-in-Commit-clause-step
returns-in-Commit-clause-step g c = commit_met c.commit.result c.args.self.now c.commit.new.self (g.H.Host.disk c.args.host.now) (g.H.Host.disk c.commit.new.host) (IsTrue g.H.Host.tells) c.args.command.now c.in-Commit.is c.commit.ensures.step

pub returns-in-Commit-clause-full : goal.returns-in-Commit-clause-full
returns-in-Commit-clause-full g c = full_and c.commit.result (c.args.command.now ≡ line.Commit) (c.commit.new.host ≡ c.args.host.now) (IsSame c.args.self.now c.commit.new.self) (LacksRoom (c.args.self.now).store) c.in-Commit.is c.commit.ensures.full

pub returns-in-Commit-clause-spent : goal.returns-in-Commit-clause-spent
returns-in-Commit-clause-spent g c =
    spent_unless c.commit.result c.args.self.now c.commit.new.self (g.H.Host.disk c.args.host.now) (g.H.Host.disk c.commit.new.host) (IsTrue g.H.Host.tells) (c.commit.new.host ≡ c.args.host.now) (ap g.H.Host.disk) c.commit.ensures.unchanged

pub returns-in_default-clause-step : goal.returns-in_default-clause-step
returns-in_default-clause-step g c = in_room c.look.result _ c.look.ensures.step

pub returns-in_default-clause-full : goal.returns-in_default-clause-full
returns-in_default-clause-full g c = never_full c.look.result _ c.look.ensures.room

pub returns-in_default-clause-spent : goal.returns-in_default-clause-spent
returns-in_default-clause-spent g c = on_err_weaker c.look.result inr c.look.ensures.spent

pub returns-in_default-clause-any_moment : goal.returns-in_default-clause-any_moment
returns-in_default-clause-any_moment g c = λ t m h. looks_stand (c.args.self.now).store _ _ m.committed m.session (c.requires.agrees t) h.stores (c.look.ensures.looks t)
