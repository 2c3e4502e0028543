use Rattle.oc_model.specs.Spelling.{record_bytes, IsSpellable}
use Rattle.oc_model.proofs.Told.{value_told, record_told, told_alone}
use Rattle.oc_model.proofs.laws_spelling.record_bytes_tell.Goals as goal

pub returns : goal.returns
returns c = record { values = value_told; records = record_told; same = told_alone IsSpellable record_bytes record_told }
