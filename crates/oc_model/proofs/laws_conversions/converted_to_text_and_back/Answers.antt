use Rattle.oc_model.proofs.Conversions.{converted_back}
use Rattle.oc_model.proofs.laws_conversions.converted_to_text_and_back.Goals as goal

pub returns : goal.returns
returns c = record { back = converted_back }
