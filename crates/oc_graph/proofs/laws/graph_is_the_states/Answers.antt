use Rattle.oc_graph.proofs.States.{graph_is_the_states, states_name_live}
use Rattle.oc_graph.proofs.laws.graph_is_the_states.Goals as goal

pub returns : goal.returns
returns c = record { graph = graph_is_the_states; named = states_name_live }
