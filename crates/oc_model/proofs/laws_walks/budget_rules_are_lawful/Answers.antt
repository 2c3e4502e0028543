-- Each clause is a lemma.
use Rattle.oc_model.proofs.Budgets.{clamped_small, clamped_rises, at_least_small, at_least_rises, plain_lawful}
use Rattle.oc_model.proofs.laws_walks.budget_rules_are_lawful.Goals as goal

pub returns : goal.returns
returns c =
    record {
      clamped_small = clamped_small;
      clamped_rises = clamped_rises;
      at_least_small = at_least_small;
      at_least_rises = at_least_rises;
      plain = plain_lawful;
    }
