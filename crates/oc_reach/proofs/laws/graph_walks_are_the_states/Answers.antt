-- Each clause is a lemma.
use Rattle.oc_reach.proofs.GraphLaws.{activate_is, deactivate_is, refresh_is, peek_is, store_is, delete_is, show_is, in_range}
use Rattle.oc_reach.proofs.laws.graph_walks_are_the_states.Goals as goal

pub returns : goal.returns
returns c =
    record {
      activate = activate_is;
      deactivate = deactivate_is;
      refresh = refresh_is;
      peek = peek_is;
      store = store_is;
      delete = delete_is;
      show = show_is;
      settings = in_range;
    }
