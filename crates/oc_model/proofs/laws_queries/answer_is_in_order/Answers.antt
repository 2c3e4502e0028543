-- Each clause is a lemma.
use Rattle.oc_model.proofs.Answering.{answer_permutes, answer_in_order, answer_only}
use Rattle.oc_model.proofs.laws_queries.answer_is_in_order.Goals as goal

pub returns : goal.returns
returns c = record { found = answer_permutes; order = answer_in_order; only = answer_only }
