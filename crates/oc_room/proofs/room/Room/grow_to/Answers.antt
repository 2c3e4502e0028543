use Rattle.std.proofs.Common.{ap, arith}
use Rattle.oc_room.specs.Rooms.{Space}
use Rattle.oc_room.proofs.room.Room.grow_to.Goals as goal

pub invariant_of-self : goal.invariant_of-self
invariant_of-self c = record {
  free = c.self.invariant.free;
  within = λ k le. c.self.invariant.within k (omega (arith, le, c.requires.begins, ap (λ (v : Space). v.end) c.self.view_is));
  unit = c.self.invariant.unit;
  end = omega (arith, c.requires.limit, ap (λ (v : Space). v.limit) c.self.view_is);
  limit = c.self.invariant.limit;
}
