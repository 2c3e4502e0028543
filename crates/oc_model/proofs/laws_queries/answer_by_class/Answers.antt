-- Numbers that ascend are in their order.
use Rattle.oc_model.proofs.Answering.{answer_plain}
use Rattle.oc_model.proofs.laws_queries.answer_by_class.Goals as goal

pub returns : goal.returns
returns c = answer_plain
