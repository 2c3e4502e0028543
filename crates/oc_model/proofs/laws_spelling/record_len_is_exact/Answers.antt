use Rattle.oc_model.proofs.Lengths.{length-record_bytes}
use Rattle.oc_model.proofs.laws_spelling.record_len_is_exact.Goals as goal

pub returns : goal.returns
returns c = record { exact = length-record_bytes }
