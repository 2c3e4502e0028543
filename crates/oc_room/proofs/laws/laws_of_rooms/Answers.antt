use Rattle.oc_room.proofs.Placed.{goes_back_too}
use Rattle.oc_room.proofs.Shortages.{lacking_is}
use Rattle.oc_room.proofs.laws.laws_of_rooms.Goals as goal

pub returns-clause-shortage : goal.returns-clause-shortage
returns-clause-shortage c unit limit room lens named = lacking_is unit limit room lens named

pub returns-clause-back : goal.returns-clause-back
returns-clause-back c s t things to same spare back = goes_back_too s t things to same spare back
