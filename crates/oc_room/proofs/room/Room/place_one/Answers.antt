use Rattle.std.proofs.Common.{◌≡◌, ◌∙◌, ◌≤◌, ◌+◌, ◌++◌, ◌∷◌, [], ℕ, List, Some, None, true, ap, ap₂, cond, leb, option_map, sym, subst, inl, arith}
use Rattle.std.proofs.lemmas.Bool.Decides.{nat_tests}
use Rattle.oc_layout.specs.Layout.{blocks}
use Rattle.oc_model.specs.Space.{Part, best_fit, without}
use Rattle.oc_free.specs.FreeParts.{Free, free_at, has_block}
use Rattle.oc_room.specs.Rooms.{Space, Placed}
use Rattle.oc_room.proofs.Placing.{appended, next_in_part, room_in_part, room_at_end, no_room_for_long, still_within, ends_within}
use Rattle.oc_room.proofs.Counting.{some_blocks}
use Rattle.oc_room.proofs.room.Room.place_one.Goals as goal

pub returns-then-len-gt-MOST_BYTES-clause-room : goal.returns-then-len-gt-MOST_BYTES-clause-room
returns-then-len-gt-MOST_BYTES-clause-room c cells =
    no_room_for_long c.args.self.now.unit cells c.args.self.now.parts c.args.self.now.end c.args.len c.args.self.now.limit (grind (arith, nat_tests, c.if-len-gt-MOST_BYTES.true))

pub invariant_of-self : goal.invariant_of-self
invariant_of-self c = record {
  free = c.take.ensures.free;
  within = still_within c.self.inside.free.parts c.take.new.self.parts c.self.inside.end c.in-Some.at c.blocks_of-need.result c.self.invariant.within c.in-Some.ensures.blocks;
  unit = c.self.invariant.unit;
  end = c.self.invariant.end;
  limit = c.self.invariant.limit;
}

pub invariant_of-self-2 : goal.invariant_of-self-2
invariant_of-self-2 c = record {
  free = c.take.ensures.free;
  within = λ k le. rw c.in_default.ensures.unchanged (c.self.invariant.within k le);
  unit = c.self.invariant.unit;
  end = c.self.invariant.end;
  limit = c.self.invariant.limit;
}

-- a part was found
module _ (c : goal.In-Some) where
  parts : List Part
  parts = c.self.inside.free.parts

  here : Some c.in-Some.at ≡ option_map (λ (p : Part). p.address) (best_fit c.args.self.now.parts (blocks c.args.self.now.unit c.args.len))
  here = subst (λ (v : Space). Some c.in-Some.at ≡ option_map (λ (p : Part). p.address) (best_fit v.parts (blocks c.args.self.now.unit c.args.len))) c.self.view_is
      (subst (λ n. Some c.in-Some.at ≡ option_map (λ (p : Part). p.address) (best_fit c.self.inside.free.parts n)) c.blocks_of-need.ensures c.in-Some.ensures.best)

pub returns-in-Some-clause-room : goal.returns-in-Some-clause-room
returns-in-Some-clause-room c cells =
    room_in_part c.args.self.now.unit cells c.args.self.now.parts c.args.self.now.end c.args.len c.args.self.now.limit c.in-Some.at (grind (arith, nat_tests, c.if-len-gt-MOST_BYTES.false)) (here c)

pub returns-in-Some-clause-next : goal.returns-in-Some-clause-next
returns-in-Some-clause-next c cells =
    let left : c.take.new.self.parts ≡ without c.args.self.now.parts c.in-Some.at (blocks c.args.self.now.unit c.args.len) =
    c.in-Some.ensures.left ∙ ap₂ (λ (ps : List Part) n. without ps c.in-Some.at n) (ap (λ (v : Space). v.parts) c.self.view_is) c.blocks_of-need.ensures in
    next_in_part c.args.self.now.unit cells c.args.self.now.parts c.args.self.now.end c.args.len c.in-Some.at (here c)
    ∙ ap₂ {C = Placed} (λ ps e. record { cells = cells ++ record { at = c.in-Some.at; len = c.args.len } ∷ []; parts = ps; end = e }) (sym left) (sym (ap (λ (v : Space). v.end) c.self.view_is))

pub returns-in-Some-clause-lies : goal.returns-in-Some-clause-lies
returns-in-Some-clause-lies c = inl (λ k owned.
    let had : has_block k (record { address = c.in-Some.at; blocks = c.blocks_of-need.result }) ≡ true = subst (λ n. has_block k (record { address = c.in-Some.at; blocks = n }) ≡ true) (sym c.blocks_of-need.ensures) owned in
    let took = c.in-Some.ensures.blocks k in
    subst (λ (v : Space). 1 ≤ free_at v.parts k) c.self.view_is (omega (arith, took, ap {B = ℕ} (λ b. cond b 1 0) had)))

-- the part lies within the file
module _ (c : goal.In-Some) where
  need_is : c.blocks_of-need.result ≡ blocks c.self.inside.unit c.args.len
  need_is = c.blocks_of-need.ensures ∙ ap (λ (v : Space). blocks v.unit c.args.len) (sym c.self.view_is)

  ends : c.in-Some.at + blocks c.args.self.now.unit c.args.len ≤ c.args.self.now.end
  ends = subst (λ (v : Space). c.in-Some.at + blocks v.unit c.args.len ≤ v.end) c.self.view_is
      (subst (λ n. c.in-Some.at + n ≤ c.self.inside.end) need_is
      (ends_within c.self.inside.free.parts c.take.new.self.parts c.self.inside.end c.in-Some.at c.blocks_of-need.result
      (omega (arith, need_is, some_blocks c.self.inside.unit c.args.len c.self.invariant.unit c.requires)) c.self.invariant.within c.in-Some.ensures.blocks))

pub returns-in-Some-clause-begins : goal.returns-in-Some-clause-begins
returns-in-Some-clause-begins c = omega (arith, ends c)

pub returns-in-Some-clause-grows : goal.returns-in-Some-clause-grows
returns-in-Some-clause-grows c = omega (arith, ends c, ap (λ (v : Space). v.end) c.self.view_is)

-- no part was found
module _ (c : goal.After-append) where
  need : c.blocks_of-need.result ≡ blocks c.self.inside.unit c.args.len
  need = c.blocks_of-need.ensures ∙ ap (λ (v : Space). blocks v.unit c.args.len) (sym c.self.view_is)

  nowhere : None ≡ option_map (λ (p : Part). p.address) (best_fit c.self.inside.free.parts (blocks c.self.inside.unit c.args.len))
  nowhere = subst (λ n. None ≡ option_map (λ (p : Part). p.address) (best_fit c.self.inside.free.parts n)) need c.in_default.ensures.best

pub returns-clause-room : goal.returns-clause-room
returns-clause-room c cells = rw (← c.self.view_is)
    (room_at_end c.self.inside.unit cells c.self.inside.free.parts c.self.inside.end c.args.len c.self.inside.limit (grind (arith, nat_tests, c.if-len-gt-MOST_BYTES.false)) (nowhere c)
    ∙ sym (c.append.ensures.room ∙ ap (λ n. leb (c.self.inside.end + n) c.self.inside.limit) (need c)))

pub returns-clause-next : goal.returns-clause-next
returns-clause-next c = rw (← c.self.view_is)
    (appended c.append.result (record { unit = c.self.inside.unit; parts = c.self.inside.free.parts; end = c.self.inside.end; limit = c.self.inside.limit; spare = c.self.inside.free.spare }) c.append.new.self c.args.len c.blocks_of-need.result c.append.ensures.cell (c.append.ensures.parts ∙ ap (λ (f : Free). f.parts) c.in_default.ensures.unchanged) c.append.ensures.end (need c) (nowhere c))

pub returns-in-Some-clause-fewer : goal.returns-in-Some-clause-fewer
returns-in-Some-clause-fewer c k = subst (λ (v : Space). free_at c.take.new.self.parts k ≤ free_at v.parts k) c.self.view_is (omega (arith, c.in-Some.ensures.blocks k))

pub returns-in-Some-clause-is_room : goal.returns-in-Some-clause-is_room
returns-in-Some-clause-is_room c = invariant_of-self c
