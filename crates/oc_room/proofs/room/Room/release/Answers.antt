use Rattle.std.proofs.Common.{◌≡◌, true, sym, subst, arith}
use Rattle.std.proofs.lemmas.Bool.Decides.{nat_tests}
use Rattle.oc_free.specs.FreeParts.{free_at}
use Rattle.oc_room.specs.Rooms.{Space, owns}
use Rattle.oc_room.proofs.Placing.{became_free}
use Rattle.oc_room.proofs.room.Room.release.Goals as goal

pub release-requires-clause-taken : goal.release-requires-clause-taken
release-requires-clause-taken c k from to =
    let owned : owns c.args.self.now.unit k c.args.thing ≡ true = grind (arith, nat_tests, from, to, c.blocks_of-blocks.ensures, c.self.view_is) in
    subst (λ (v : Space). free_at v.parts k ≡ 0) (sym c.self.view_is) (c.requires.taken k owned)

pub invariant_of-self : goal.invariant_of-self
invariant_of-self c = record {
  free = c.release.ensures.free;
  within = became_free c.self.inside.free.parts c.release.new.self.parts c.self.inside.end c.args.thing.at c.blocks_of-blocks.result (grind (arith, c.blocks_of-blocks.ensures, c.self.view_is, c.requires.within)) c.self.invariant.within c.release.ensures.blocks;
  unit = c.self.invariant.unit;
  end = c.self.invariant.end;
  limit = c.self.invariant.limit;
}

pub returns-clause-is_room : goal.returns-clause-is_room
returns-clause-is_room c = invariant_of-self c
