-- Each clause is a lemma.
use Rattle.oc_reach.proofs.GraphLaws.{activate_over_lawful, plain_over_lawful, store_over_lawful, delete_over_lawful, show_over_lawful}
use Rattle.oc_reach.proofs.laws.graph_walks_are_lawful.Goals as goal

pub returns : goal.returns
returns c =
    record {
      activate = activate_over_lawful;
      plain = plain_over_lawful;
      store = store_over_lawful;
      delete = delete_over_lawful;
      show = show_over_lawful;
    }
