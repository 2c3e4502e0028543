use Rattle.oc_model.proofs.Conversions.{converted_fits, converted_stays}
use Rattle.oc_model.proofs.laws_conversions.converted_is_of_the_kind.Goals as goal

pub returns : goal.returns
returns c = record { fits = converted_fits; stays = converted_stays }
