use Rattle.std.proofs.Common.{Ok, Err}
use Rattle.oc_store.proofs.FreeNumbers.{place_found}
use Rattle.oc_store.proofs.numbering.first_from.Goals as goal

pub returns-in-Ok : goal.returns-in-Ok
returns-in-Ok c = place_found c.args.numbers.now c.args.number c.requires (Ok c.in-Ok.place) c.in-Ok.ensures.position

pub returns-in-Ok-2 : goal.returns-in-Ok-2
returns-in-Ok-2 c = place_found c.args.numbers.now c.args.number c.requires (Err c.in-Ok.place) c.in-Ok.ensures.position
