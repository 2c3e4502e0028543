-- The lemma, at records.
use Rattle.oc_model.proofs.MapLaws.{with_at_alone}
use Rattle.oc_model.proofs.laws_maps.records_are_by_number.Goals as goal

pub returns : goal.returns
returns c = with_at_alone
