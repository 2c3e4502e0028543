use Rattle.oc_model.proofs.Spellable.{suited_spellable}
use Rattle.oc_model.proofs.laws_stores.suited_record_is_spellable.Goals as goal

pub returns : goal.returns
returns c = suited_spellable
