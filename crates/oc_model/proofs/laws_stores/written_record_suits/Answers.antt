use Rattle.oc_model.proofs.Written.{written_suits}
use Rattle.oc_model.proofs.laws_stores.written_record_suits.Goals as goal

pub returns : goal.returns
returns c = written_suits
