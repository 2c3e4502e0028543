use Rattle.oc_slots.proofs.Grounds.{targets_all, no_targets}
use Rattle.std.proofs.Common.{subst}
use Rattle.std.specs.Prelude.{All, Any}
use Rattle.oc_pages.specs.Targets.{IsTargetIn}
use Rattle.oc_slots.proofs.ground.are_targets.Goals as goal

pub returns-clause-yes : goal.returns-clause-yes
returns-clause-yes c are =
    targets_all c.args.header.now c.args.pages.now.pages c.args.writes.now c.behind_root.result.now c.behind_root.ensures
    (subst (λ u. All (λ w. IsTargetIn u c.args.pages.now.pages w.target) c.behind_root.result.now) c.requires.unit (c.in_ok-are.ensures.yes are))

pub returns-clause-no : goal.returns-clause-no
returns-clause-no c are len suit asc all =
    no_targets c.args.header.now c.args.pages.now.pages len c.args.writes.now c.behind_root.result.now c.behind_root.ensures
    (subst (λ u. Any (λ w. ¬ IsTargetIn u c.args.pages.now.pages w.target) c.behind_root.result.now) c.requires.unit (c.in_ok-are.ensures.no are)) suit asc all
