use Rattle.std.proofs.Common.{◌∙◌, ap}
use Rattle.oc_room.specs.declared.fault.RoomFault.TheVariants as RoomFault
use Rattle.oc_room.proofs.Counting.{rounded_up}
use Rattle.oc_room.proofs.room.Room.full.Goals as goal

pub returns : goal.returns
returns c = rw (← c.self.view_is) (ap (λ n. RoomFault.Full n c.self.inside.end c.self.inside.limit) (c.div_ceil.ensures ∙ rounded_up c.self.inside.unit c.args.len c.self.invariant.unit))
