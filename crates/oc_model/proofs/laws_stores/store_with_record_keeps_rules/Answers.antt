use Rattle.oc_model.proofs.Written.{with_record_keeps}
use Rattle.oc_model.proofs.laws_stores.store_with_record_keeps_rules.Goals as goal

pub returns : goal.returns
returns c = with_record_keeps
