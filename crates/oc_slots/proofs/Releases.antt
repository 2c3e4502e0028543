-- Cells that are given back one after another.
use Rattle.std.proofs.Common.{◌≡◌, ◌∙◌, ℕ, suc, ◌+◌, ◌≤◌, ◌<◌, cond, true, List, [], ◌∷◌, ◌++◌, length, drop, get_or, None, sym, ap, subst, arith, length-append}
use Rattle.std.specs.Prelude.{All}
use Rattle.std.proofs.Math.Seq.{drop-cons}
use Rattle.std.proofs.lemmas.List.{drop_all}
use Rattle.std.proofs.lemmas.List.Sums.{sum_by-cons}
use Rattle.oc_layout.specs.declared.cells.Cell.{Cell}
use Rattle.oc_layout.specs.Layout.{blocks}
use Rattle.oc_free.specs.FreeParts.{free_at}
use Rattle.oc_room.specs.Rooms.{Space, IsRoom, owns, owners}
use Rattle.oc_slots.specs.Slots.{Changes, cell_list, places_in}
use Rattle.oc_slots.specs.Noting.{GoFree}
use Rattle.oc_slots.proofs.Things.{left_of, right_of}
use Rattle.oc_slots.proofs.Noted.{owners_append}

pub free_front : (room : Space) (here more : List Cell) → GoFree room (here ++ more) → GoFree room here
free_front room here more is = record {
  is_room = is.is_room;
  some = left_of (λ c. 1 ≤ c.len) here more is.some;
  within = left_of (λ c. c.at + blocks room.unit c.len ≤ room.end) here more is.within;
  taken = λ k. omega (arith, is.taken k, owners_append room.unit k here more);
  spare = omega (arith, is.spare, length-append here more);
}

-- when the first are free the others can be given back
pub free_on : (room left : Space) (here more : List Cell) → GoFree room (here ++ more) → ((k : ℕ) → free_at left.parts k ≡ free_at room.parts k + owners room.unit here k) → room.spare ≤ left.spare + length here → IsRoom left → left.unit ≡ room.unit → left.end ≡ room.end → GoFree left more
free_on room left here more is parts spare is_room unit end = record {
  is_room = is_room;
  some = right_of (λ c. 1 ≤ c.len) here more is.some;
  within = subst (λ u. All (λ c. c.at + blocks u c.len ≤ left.end) more) (sym unit) (subst (λ e. All (λ c. c.at + blocks room.unit c.len ≤ e) more) (sym end) (right_of (λ c. c.at + blocks room.unit c.len ≤ room.end) here more is.within));
  taken = λ k. subst (λ u. owners u more k + free_at left.parts k ≤ 1) (sym unit) (omega (arith, is.taken k, parts k, owners_append room.unit k here more));
  spare = omega (arith, is.spare, spare, length-append here more);
}

-- a block of a cell that is to be given back isn't free
pub one_taken : (room : Space) (c : Cell) → GoFree room (c ∷ []) → (k : ℕ) → owns room.unit k c ≡ true → free_at room.parts k ≡ 0
one_taken room c is k own = omega (arith, is.taken k, sum_by-cons (λ x. cond (owns room.unit k x) 1 0) c [], ap {B = ℕ} (λ b. cond b 1 0) own)

pub one_given : (unit : ℕ) (c : Cell) (k : ℕ) → owners unit (c ∷ []) k ≡ cond (owns unit k c) 1 0
one_given unit c k = omega (arith, sum_by-cons (λ x. cond (owns unit k x) 1 0) c [])

-- the places of the changes from one on
pub places_left : (cs : Changes) (i : ℕ) → i < length cs → places_in (drop i cs) ≡ cell_list (get_or cs i (0, None)).1 ++ places_in (drop (i + 1) cs)
places_left cs i lt = ap places_in (drop-cons cs i (0, None) lt) ∙ (λ j. cell_list (get_or cs i (0, None)).1 ++ places_in (drop (next j) cs))
  where
    next : suc i ≡ i + 1
    next = omega arith

pub places_none : (cs : Changes) (i : ℕ) → length cs ≤ i → places_in (drop i cs) ≡ []
places_none cs i le = ap places_in (drop_all i cs le)
