use Rattle.oc_model.proofs.NewChild as lemma
use Rattle.oc_model.proofs.laws_schemas.new_child_limits.Goals as goal

pub returns : goal.returns
returns c = lemma.new_child_limits
