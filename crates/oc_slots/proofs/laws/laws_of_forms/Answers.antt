use Rattle.oc_slots.proofs.OneMap.{one_map}
use Rattle.oc_slots.proofs.laws.laws_of_forms.Goals as goal

pub returns : goal.returns
returns c = record { one_map = one_map }
