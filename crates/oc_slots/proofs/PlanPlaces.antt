-- What a commit places, and what is taken back of it.
use Rattle.std.proofs.Common.{◌≡◌, ◌∙◌, ℕ, ◌+◌, ◌≤◌, cond, leb, List, length, sym, ap, subst, arith}
use Rattle.std.specs.Prelude.{All}
use Rattle.oc_layout.specs.declared.cells.Cell.{Cell}
use Rattle.oc_free.specs.FreeParts.{free_at}
use Rattle.oc_model.specs.Space.{Part}
use Rattle.oc_room.specs.Rooms.{Space, IsRoom, IsSame, GoesBack, AreInOrder, open_at, owners}
use Rattle.oc_room.proofs.Placed.{goes_back_too, few_cells}
use Rattle.oc_slots.specs.Planning.{ArePlaced}

-- the same blocks are open
pub open_same : (s t : Space) (k : ℕ) → IsSame s t → open_at s k ≡ open_at t k
open_same s t k same i = free_at (sym same.parts i) k + cond (leb (sym same.end i) k) 1 0

-- what was placed goes back into the room, if that is the same still
pub goes_back_still : (s t u : Space) (cells now : List Cell) (to : ℕ) → GoesBack t cells s.end → IsSame t u → length cells ≤ u.spare → now ≡ cells → to ≡ s.end → GoesBack u now to
goes_back_still s t u cells now to back same spare are is =
    subst (GoesBack u now) (sym is) (subst (λ l. GoesBack u l s.end) (sym are) (goes_back_too t u cells s.end same spare back))

-- what was placed and is in the room that is the same still
pub opened_still : (s t u : Space) (cells now : List Cell) → ((k : ℕ) → open_at s k ≡ open_at t k + owners s.unit cells k) → IsSame t u → now ≡ cells → (k : ℕ) → open_at s k ≡ open_at u k + owners s.unit now k
opened_still s t u cells now opened same are k = opened k ∙ (λ i. open_same t u k same i + owners s.unit (sym are i) k)

pub placed_still : (s t u : Space) (lens : List ℕ) (cells : List Cell) → ArePlaced s lens cells t → IsSame t u → ArePlaced s lens cells u
placed_still s t u lens cells are same = record {
  placed = are.placed ∙ (λ i. record { cells = cells; parts = sym same.parts i; end = sym same.end i });
  lengths = are.lengths;
  opened = λ k. are.opened k ∙ ap (λ n. n + owners s.unit cells k) (open_same t u k same);
  order = subst (AreInOrder s.unit s.end cells) (sym same.end) are.order;
  within = λ k ge. ap (λ (ps : List Part). free_at ps k) same.parts ∙ are.within k ge;
  unit = same.unit ∙ are.unit;
  limit = same.limit ∙ are.limit;
}

-- what is placed are no more things than a file may have blocks
pub few_placed : (s t : Space) (cells : List Cell) → IsRoom s → IsRoom t → ((k : ℕ) → open_at s k ≡ open_at t k + owners s.unit cells k) → All (λ c. 1 ≤ c.len) cells → length cells ≤ 2147483647
few_placed s t cells is_s is_t opened some = omega (arith, few_cells s t cells opened is_s.free is_s.within is_s.unit some, is_t.end, is_t.limit)
