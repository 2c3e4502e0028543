use Rattle.std.proofs.Common.{◌≡◌, ◌≤◌, ◌-◌, ℕ, ap, arith}
use Rattle.oc_free.specs.FreeParts.{free_at}
use Rattle.oc_room.specs.Rooms.{Space}
use Rattle.oc_room.proofs.Placing.{became_free}
use Rattle.oc_room.proofs.room.Room.free_to.Goals as goal
use Rattle.oc_room.proofs.room.Room.free_to.Goals.{then-self-at, else-self-at}

pub invariant_of-self : goal.invariant_of-self
invariant_of-self c = record {
  free = c.reserve.ensures.free;
  within = λ k le. rw c.reserve.ensures.parts (c.self.invariant.within k le);
  unit = c.self.invariant.unit;
  end = c.self.invariant.end;
  limit = c.self.invariant.limit;
}

pub release-requires-clause-taken : goal.release-requires-clause-taken
release-requires-clause-taken c k from to = rw c.reserve.ensures.parts (c.self.invariant.within k from)

pub invariant_of-self-2 : goal.invariant_of-self-2
invariant_of-self-2 c =
    let begins : c.self.inside.end ≤ c.args.at = omega (arith, c.requires.begins, ap (λ (v : Space). v.end) c.self.view_is) in
    let limit : c.args.at ≤ c.self.inside.limit = omega (arith, c.requires.limit, ap (λ (v : Space). v.limit) c.self.view_is) in
    elim c.if-self-at.branch [
      | then-self-at w ↦
          let none : (k : ℕ) → c.args.at ≤ k → free_at c.reserve.new.self.parts k ≡ 0 = λ k le. rw c.reserve.ensures.parts (c.self.invariant.within k (omega (arith, le, begins))) in
          rw w.self-inside-is (record {
            free = w.release.ensures.free;
            within = became_free c.reserve.new.self.parts w.release.new.self.parts c.args.at c.self.inside.end (c.args.at - c.self.inside.end) (omega (arith, begins)) none w.release.ensures.blocks;
            unit = c.self.invariant.unit;
            end = limit;
            limit = c.self.invariant.limit;
          })
      | else-self-at w ↦
          rw w.self-inside-is (record {
            free = c.reserve.ensures.free;
            within = λ k le. rw c.reserve.ensures.parts (c.self.invariant.within k (omega (arith, le, begins)));
            unit = c.self.invariant.unit;
            end = limit;
            limit = c.self.invariant.limit;
          })
    ]
