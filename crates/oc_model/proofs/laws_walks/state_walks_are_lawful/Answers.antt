-- Each clause is a lemma.
use Rattle.oc_model.proofs.StateWalks.{activate_lawful, deactivate_lawful, refresh_lawful, peek_lawful, store_lawful, delete_lawful, show_lawful}
use Rattle.oc_model.proofs.laws_walks.state_walks_are_lawful.Goals as goal

pub returns : goal.returns
returns c =
    record {
      activate = activate_lawful;
      deactivate = deactivate_lawful;
      refresh = refresh_lawful;
      peek = peek_lawful;
      store = store_lawful;
      delete = delete_lawful;
      show = show_lawful;
    }
