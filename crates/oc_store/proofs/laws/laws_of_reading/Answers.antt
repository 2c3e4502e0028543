use Rattle.oc_store.proofs.Fetched.{shown_read}
use Rattle.oc_store.proofs.laws.laws_of_reading.Goals as goal

pub returns : goal.returns
returns c = record { read = shown_read }
