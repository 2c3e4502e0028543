use Rattle.oc_slots.proofs.PointedPages.{chain_all, pointers_all, things_all}
use Rattle.oc_slots.proofs.laws.laws_of_pointings.Goals as goal

pub returns : goal.returns
returns c = record { chain = chain_all; pointers = pointers_all; things = things_all }
