use Rattle.oc_model.proofs.Told.{extents_told, index_told}
use Rattle.oc_model.proofs.laws_spelling.segment_bytes_tell.Goals as goal

pub returns : goal.returns
returns c = record { extents = extents_told; index = index_told }
