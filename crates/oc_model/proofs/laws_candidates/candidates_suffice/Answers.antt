use Rattle.oc_model.proofs.Candidates.{found_among, found_is}
use Rattle.oc_model.proofs.laws_candidates.candidates_suffice.Goals as goal

pub returns : goal.returns
returns c = record { among = found_among; kept = found_is }
