use Rattle.oc_store.proofs.Standing.{image_stands}
use Rattle.oc_store.proofs.laws.laws_of_images.Goals as goal

pub returns : goal.returns
returns c = record { stands = image_stands }
