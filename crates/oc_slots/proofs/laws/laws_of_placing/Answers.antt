use Rattle.oc_slots.proofs.Placing.{tiles_placed, beside_placed}
use Rattle.oc_slots.proofs.laws.laws_of_placing.Goals as goal

pub returns : goal.returns
returns c = record {
  placed = λ s t things cells tiles same grown opened within. (tiles_placed s t things cells tiles same grown opened within, beside_placed s t things cells tiles same grown opened within);
}
