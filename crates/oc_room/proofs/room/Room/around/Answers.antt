use Rattle.std.proofs.Common.{◌≡◌, ◌∙◌, ◌<◌, ◌≤◌, ◌+◌, ◌-◌, ℕ, cond, leb, List, get_or, ap, sym, subst, inl, inr, arith}
use Rattle.std.specs.List.{All}
use Rattle.std.specs.List.Sorted.{IsPermutation, IsNonDecreasingBy}
use Rattle.std.proofs.lemmas.List.{take_all}
use Rattle.std.proofs.lemmas.List.Sorted.{sum_by-IsPermutation, All-permutation}
use Rattle.oc_layout.specs.declared.cells.Cell.{Cell}
use Rattle.oc_layout.specs.Layout.{blocks}
use Rattle.oc_free.specs.FreeParts.{free_at}
use Rattle.oc_room.specs.Rooms.{owns, owners, AreApart}
use Rattle.oc_room.proofs.Counting.{no_cell, some_blocks}
use Rattle.oc_room.proofs.Filled.{fill, overlaps, too_far, filled_out}
use Rattle.oc_room.proofs.room.Room.around.Goals as goal

same_owners : (unit : ℕ) (old new : List Cell) → IsPermutation old new → (k : ℕ) → owners unit new k ≡ owners unit old k
same_owners unit old new p k = sum_by-IsPermutation (λ t. cond (owns unit k t) 1 0) old new p

-- the thing begins before the end, or ends behind the file's
pub returns-then-not-branch-clause-none : goal.returns-then-not-branch-clause-none
returns-then-not-branch-clause-none c none apart =
    let unit = c.args.unit in
    let i = c.loop-thing.thing-index in
    let sorted = c.sort_by_address.new.things.items in
    let things = c.deref-thing-items.result.now in
    let is : things ≡ sorted = c.deref-thing-items.ensures.value in
    let some : All (λ t. 1 ≤ t.len) things = subst (All (λ t. 1 ≤ t.len)) (sym is) (All-permutation (λ t. 1 ≤ t.len) _ _ c.sort_by_address.ensures.same c.requires.some) in
    let ordered : IsNonDecreasingBy (λ (t : Cell). t.at) things = subst (IsNonDecreasingBy (λ (t : Cell). t.at)) (sym is) c.sort_by_address.ensures.ascending in
    let here : 1 ≤ blocks unit (get_or things i no_cell).len = some_blocks unit _ c.requires.unit (some i no_cell c.loop-thing-test.true) in
    let apart_here : AreApart unit c.args.end things = λ k. subst (λ n. n ≤ cond (leb c.args.end k) 0 1) (sym (ap (λ l. owners unit l k) is ∙ same_owners unit _ _ c.sort_by_address.ensures.same k)) (apart k) in
    elim (c.in_ok-goes_on.ensures.not c.if-not-branch.true) [
      | inl before ↦ overlaps unit c.loop-thing.room.end things i (free_at c.loop-thing.room.parts) c.loop-thing-test.true c.loop-thing.invariant.filled c.args.end here (λ pos. ordered (i - 1) i no_cell (omega arith) c.loop-thing-test.true) before apart_here
      | inr behind ↦ too_far unit c.args.end things i c.loop-thing-test.true here (subst (λ u. c.args.end < (get_or things i no_cell).at + blocks u (get_or things i no_cell).len) c.loop-thing.invariant.unit behind) apart_here
    ]

pub loop-thing-preserved : goal.loop-thing-preserved
loop-thing-preserved c =
    let unit = c.args.unit in
    let i = c.loop-thing.thing-index in
    let things = c.deref-thing-items.result.now in
    let is : things ≡ c.sort_by_address.new.things.items = c.deref-thing-items.ensures.value in
    let some : All (λ t. 1 ≤ t.len) things = subst (All (λ t. 1 ≤ t.len)) (sym is) (All-permutation (λ t. 1 ≤ t.len) _ _ c.sort_by_address.ensures.same c.requires.some) in
    let here : 1 ≤ blocks unit (get_or things i no_cell).len = some_blocks unit _ c.requires.unit (some i no_cell c.loop-thing-test.true) in
    let took = c.if-not-branch.false in
    record {
      filled = fill unit c.loop-thing.room.end things i (free_at c.loop-thing.room.parts) c.loop-thing-test.true c.loop-thing.invariant.filled (free_at c.goes_on.new.self.parts) c.goes_on.new.self.end here (c.in_ok-goes_on.ensures.begins took) (c.in_ok-goes_on.ensures.parts took)
          (subst (λ u. c.goes_on.new.self.end ≡ (get_or things i no_cell).at + blocks u (get_or things i no_cell).len) c.loop-thing.invariant.unit (c.in_ok-goes_on.ensures.ends took));
      end = c.in_ok-goes_on.ensures.within took;
      unit = c.goes_on.ensures.unit ∙ c.loop-thing.invariant.unit;
      limit = c.goes_on.ensures.limit ∙ c.loop-thing.invariant.limit;
    }

pub returns-clause-tiles : goal.returns-clause-tiles
returns-clause-tiles c =
    let unit = c.args.unit in
    let i = c.loop-thing.thing-index in
    let things = c.deref-thing-items.result.now in
    let s = c.free_to.new.self in
    let is : things ≡ c.sort_by_address.new.things.items = c.deref-thing-items.ensures.value in
    let same : (k : ℕ) → owners unit things k ≡ owners unit c.args.things.items k = λ k. ap (λ l. owners unit l k) is ∙ same_owners unit _ _ c.sort_by_address.ensures.same k in
    let end : s.end ≡ c.args.end = c.in_ok-free_to.ensures.end in
    let unit_is : s.unit ≡ unit = c.free_to.ensures.unit ∙ c.loop-thing.invariant.unit in
    let filled = filled_out unit c.loop-thing.room.end c.args.end things things c.args.things.items i (free_at c.loop-thing.room.parts) (free_at s.parts) c.loop-thing.invariant.filled (take_all i things c.loop-thing-test.false)
    c.loop-thing.invariant.end same c.in_ok-free_to.ensures.parts in
    record {
      each = λ k lt. subst (λ u. owners u c.args.things.items k + free_at s.parts k ≡ 1) (sym unit_is) (filled.each k (omega (arith, lt, end)));
      none = λ k ge. subst (λ u. owners u c.args.things.items k + free_at s.parts k ≡ 0) (sym unit_is) (filled.none k (omega (arith, ge, end)));
    }
