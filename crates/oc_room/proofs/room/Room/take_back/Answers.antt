use Rattle.std.proofs.Common.{◌≡◌, ◌∙◌, true, ◌≤◌, ◌+◌, ℕ, take, get_or, cond, ap, sym, subst, arith}
use Rattle.std.proofs.lemmas.List.{take_all}
use Rattle.oc_free.specs.FreeParts.{free_at}
use Rattle.oc_room.specs.Rooms.{Space, owns, owners}
use Rattle.oc_room.proofs.Counting.{no_cell, still_taken, given_below, given_behind, skipped_below}
use Rattle.oc_room.proofs.Placed.{as_before}
use Rattle.oc_room.proofs.room.Room.take_back.Goals as goal
use Rattle.oc_room.proofs.room.Room.take_back.Goals.{then-cell-end, else-cell-end}

pub release-requires-clause-taken : goal.release-requires-clause-taken
release-requires-clause-taken c k owned =
    still_taken c.args.self.now.unit c.args.end c.args.cells.now (free_at c.args.self.now.parts) (free_at c.loop-cell.self.parts) c.loop-cell.cell-index
    c.loop-cell-test.true c.loop-cell.invariant.below c.requires.apart (c.requires.lies c.loop-cell.cell-index no_cell c.loop-cell-test.true)
    c.if-cell-end.true k (subst (λ u. owns u k (get_or c.args.cells.now c.loop-cell.cell-index no_cell) ≡ true) c.loop-cell.invariant.unit owned)

pub loop-cell-preserved : goal.loop-cell-preserved
loop-cell-preserved c =
    let unit = c.args.self.now.unit in
    let i = c.loop-cell.cell-index in
    let cells = c.args.cells.now in
    let free = free_at c.args.self.now.parts in
    let now = free_at c.loop-cell.self.parts in
    let lies = c.requires.lies i no_cell c.loop-cell-test.true in
    elim c.if-cell-end.branch [
      | then-cell-end w ↦
          let gave : (k : ℕ) → free_at w.release.new.self.parts k ≡ now k + cond (owns unit k (get_or cells i no_cell)) 1 0 =
          λ k. subst (λ u. free_at w.release.new.self.parts k ≡ now k + cond (owns u k (get_or cells i no_cell)) 1 0) c.loop-cell.invariant.unit (w.release.ensures.parts k) in
          rw w.self-is (record {
            below = given_below unit c.args.end cells free now i c.loop-cell-test.true c.loop-cell.invariant.below (free_at w.release.new.self.parts) gave;
            behind = given_behind unit c.args.end cells now i c.loop-cell.invariant.behind lies w.if-cell-end.true (free_at w.release.new.self.parts) gave;
            end = w.release.ensures.end ∙ c.loop-cell.invariant.end;
            unit = w.release.ensures.unit ∙ c.loop-cell.invariant.unit;
            limit = w.release.ensures.limit ∙ c.loop-cell.invariant.limit;
            spare = omega (arith, w.release.ensures.spare, c.loop-cell.invariant.spare);
          })
      | else-cell-end w ↦
          rw w.self-is (record {
            below = skipped_below unit c.args.end cells free now i c.loop-cell-test.true c.loop-cell.invariant.below w.if-cell-end.false;
            behind = c.loop-cell.invariant.behind;
            end = c.loop-cell.invariant.end;
            unit = c.loop-cell.invariant.unit;
            limit = c.loop-cell.invariant.limit;
            spare = omega (arith, c.loop-cell.invariant.spare);
          })
    ]

module _ (c : goal.After-self-1) where
  behind : (k : ℕ) → c.args.end ≤ k → free_at c.self.inside.free.parts k ≡ 0
  behind k le = subst (λ (v : Space). free_at v.parts k ≡ 0) (sym c.self.view_is) (c.loop-cell.invariant.behind k le)

  whole : take c.loop-cell.cell-index c.args.cells.now ≡ c.args.cells.now
  whole = take_all c.loop-cell.cell-index c.args.cells.now c.loop-cell-test.false

pub invariant_of-self : goal.invariant_of-self
invariant_of-self c = record {
  free = c.self.invariant.free;
  within = behind c;
  unit = c.self.invariant.unit;
  end = omega (arith, c.requires.end, c.self.invariant.end, c.loop-cell.invariant.end, ap (λ (v : Space). v.end) c.self.view_is);
  limit = c.self.invariant.limit;
}

pub returns-clause-below : goal.returns-clause-below
returns-clause-below c k lt =
    subst (λ (v : Space). free_at v.parts k ≡ free_at c.args.self.now.parts k + owners c.args.self.now.unit c.args.cells.now k) (sym c.self.view_is)
    (subst (λ l. free_at c.loop-cell.self.parts k ≡ free_at c.args.self.now.parts k + owners c.args.self.now.unit l k) (whole c) (c.loop-cell.invariant.below k lt))

pub returns-clause-behind : goal.returns-clause-behind
returns-clause-behind c = behind c

pub returns-clause-same : goal.returns-clause-same
returns-clause-same c before is unit limit end opened =
    let cells = c.args.cells.now in
    let le : before.end ≤ c.args.self.now.end = omega (arith, end, c.requires.end) in
    record {
      unit = ap (λ (v : Space). v.unit) c.self.view_is ∙ c.loop-cell.invariant.unit ∙ sym unit;
      parts = as_before before c.args.self.now cells opened is.free is.within le c.self.inside.free.parts c.self.invariant.free
          (λ k lt. returns-clause-below c k (omega (arith, lt, end)) ∙ ap (λ u. free_at c.args.self.now.parts k + owners u cells k) (sym unit))
          (λ k ge. behind c k (omega (arith, ge, end)));
      end = sym end;
      limit = ap (λ (v : Space). v.limit) c.self.view_is ∙ c.loop-cell.invariant.limit ∙ sym limit;
    }

pub returns-clause-is_room : goal.returns-clause-is_room
returns-clause-is_room c = invariant_of-self c
