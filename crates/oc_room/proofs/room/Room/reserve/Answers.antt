use Rattle.oc_room.proofs.room.Room.reserve.Goals as goal

pub invariant_of-self : goal.invariant_of-self
invariant_of-self c = record {
  free = c.reserve.ensures.free;
  within = λ k le. rw c.reserve.ensures.parts (c.self.invariant.within k le);
  unit = c.self.invariant.unit;
  end = c.self.invariant.end;
  limit = c.self.invariant.limit;
}

pub invariant_of-self-2 : goal.invariant_of-self-2
invariant_of-self-2 c = record {
  free = c.reserve.ensures.free;
  within = λ k le. rw c.reserve.ensures.parts (c.self.invariant.within k le);
  unit = c.self.invariant.unit;
  end = c.self.invariant.end;
  limit = c.self.invariant.limit;
}

pub returns-in_err-reserve-clause-is_room : goal.returns-in_err-reserve-clause-is_room
returns-in_err-reserve-clause-is_room c = invariant_of-self c

pub returns-clause-is_room : goal.returns-clause-is_room
returns-clause-is_room c = invariant_of-self-2 c
