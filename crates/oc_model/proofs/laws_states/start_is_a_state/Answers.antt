-- The clause is a lemma.
use Rattle.oc_model.proofs.States.{start_is}
use Rattle.oc_model.proofs.laws_states.start_is_a_state.Goals as goal

pub returns : goal.returns
returns c = start_is
