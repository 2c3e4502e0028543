-- Changes that are noted one after another.
use Rattle.std.proofs.Common.{◌≡◌, ◌∙◌, inl, inr, ℕ, suc, ◌+◌, ◌≤◌, ◌<◌, List, [], ◌∷◌, ◌++◌, length, take, drop, get_or, sym, ap, subst, refl, arith, length-append, Option, Some, None}
use Rattle.std.specs.Prelude.{All, Contains}
use Rattle.std.proofs.Math.Seq.{drop-cons}
use Rattle.std.proofs.lemmas.List.{append_assoc, take_more}
use Rattle.std.proofs.lemmas.List.Elements.{Contains-append_left, Contains-append_right, Contains-append_cases}
use Rattle.oc_layout.specs.declared.cells.Cell.{Cell}
use Rattle.oc_layout.specs.declared.cells.Space as spaces
use Rattle.oc_layout.specs.Layout.{blocks}
use Rattle.oc_free.specs.FreeParts.{free_at}
use Rattle.oc_room.specs.Rooms.{Space, IsRoom, owners}
use Rattle.oc_slots.specs.declared.overlay.Overlay.{Overlay}
use Rattle.oc_slots.specs.declared.placed.Slot.{Slot}
use Rattle.oc_slots.specs.declared.placed.PlacedChange.{PlacedChange}
use Rattle.oc_slots.specs.Slots.{Changes, put_change, cell_list, cells_of}
use Rattle.oc_slots.specs.Stores.{fresh_of}
use Rattle.oc_slots.specs.Noting.{place_of, noted, IsSession}
use Rattle.oc_slots.proofs.Things.{left_of}
use Rattle.oc_slots.proofs.Noted.{each_in, owners_append}

-- what holds of a list holds of what is in it
pub of_contained : (P : Cell → Type 0) (xs ys : List Cell) → ((c : Cell) → Contains xs c → Contains ys c) → All P ys → All P xs
of_contained P xs ys within all k d lt =
    let there = within (get_or xs k d) (each_in xs k d lt) in
    subst P there.2 (all there.0 (get_or xs k d) there.1)

-- the first cells that are to come, and those behind them
pub session_front : (o : Overlay) (room : Space) (n : ℕ) (here more : List Cell) → IsSession o room n (here ++ more) → IsSession o room n here
session_front o room n here more is = record {
  is_room = is.is_room;
  some = left_of (λ c. 1 ≤ c.len) (fresh_of o ++ here) more (subst (All (λ c. 1 ≤ c.len)) (sym (append_assoc (fresh_of o) here more)) is.some);
  within = left_of (λ c. c.at + blocks room.unit c.len ≤ room.end) (fresh_of o ++ here) more (subst (All (λ c. c.at + blocks room.unit c.len ≤ room.end)) (sym (append_assoc (fresh_of o) here more)) is.within);
  taken = λ k. omega (arith, is.taken k, owners_append room.unit k (fresh_of o) (here ++ more), owners_append room.unit k here more, owners_append room.unit k (fresh_of o) here);
  count = is.count;
  spare = omega (arith, is.spare, length-append here more);
}

module _ (o p : Overlay) (room left : Space) (n m : ℕ) (here more : List Cell) (is : IsSession o room n (here ++ more))
    (moved : (k : ℕ) → free_at left.parts k + owners room.unit (fresh_of p) k ≡ free_at room.parts k + owners room.unit (fresh_of o) k + owners room.unit here k)
    (members : (c : Cell) → Contains (fresh_of p) c → Contains (fresh_of o ++ here) c) (count : m ≡ length (fresh_of p)) (spare : room.spare + m ≤ left.spare + n + length here)
    (is_room : IsRoom left) (unit : left.unit ≡ room.unit) (end : left.end ≡ room.end) where
  pub contained : (c : Cell) → Contains (fresh_of p ++ more) c → Contains (fresh_of o ++ (here ++ more)) c
  contained c there = subst (λ l. Contains l c) (append_assoc (fresh_of o) here more) (elim (Contains-append_cases (fresh_of p) more c there) [
    | inl old ↦ Contains-append_left (fresh_of o ++ here) more c (members c old)
    | inr new ↦ Contains-append_right (fresh_of o ++ here) more c new
  ])

  -- when the first are noted, the others are to come
  pub session_on : IsSession p left m more
  session_on = record {
    is_room = is_room;
    some = of_contained (λ c. 1 ≤ c.len) (fresh_of p ++ more) (fresh_of o ++ (here ++ more)) contained is.some;
    within = subst (λ u. All (λ c. c.at + blocks u c.len ≤ left.end) (fresh_of p ++ more)) (sym unit) (subst (λ e. All (λ c. c.at + blocks room.unit c.len ≤ e) (fresh_of p ++ more)) (sym end)
        (of_contained (λ c. c.at + blocks room.unit c.len ≤ room.end) (fresh_of p ++ more) (fresh_of o ++ (here ++ more)) contained is.within));
    taken = λ k. subst (λ u. owners u (fresh_of p ++ more) k + free_at left.parts k ≤ 1) (sym unit)
        (omega (arith, is.taken k, moved k, owners_append room.unit k (fresh_of p) more, owners_append room.unit k (fresh_of o) (here ++ more), owners_append room.unit k here more));
    count = count;
    spare = omega (arith, spare, is.spare, is.count, length-append here more);
  }

-- ---- the list of changes

pub cells_one : (p : PlacedChange) (ps : List PlacedChange) → cells_of (p ∷ ps) ≡ cell_list (place_of p) ++ cells_of ps
cells_one p ps = go p.slot refl
  where
    go : (o : Option Slot) → p.slot ≡ o → cells_of (p ∷ ps) ≡ cell_list (place_of p) ++ cells_of ps
    go None e = rw e refl
    go (Some s) e = rw e refl

pub cells_left : (ps : List PlacedChange) (i : ℕ) (p : PlacedChange) → i < length ps → p ≡ get_or ps i p → cells_of (drop i ps) ≡ cell_list (place_of p) ++ cells_of (drop (i + 1) ps)
cells_left ps i p lt is =
    ap cells_of (drop-cons ps i p lt) ∙ (λ j. cells_of (sym is j ∷ drop (suc i) ps)) ∙ cells_one p (drop (suc i) ps) ∙ (λ j. cell_list (place_of p) ++ cells_of (drop (next j) ps))
  where
    next : suc i ≡ i + 1
    next = omega arith

noted_last : (ps : List PlacedChange) (p : PlacedChange) (space : spaces.Space) (cs : Changes) → noted (ps ++ p ∷ []) space cs ≡ put_change p.id (place_of p) space (noted ps space cs)
noted_last [] p space cs = refl
noted_last (q ∷ qs) p space cs = noted_last qs p space (put_change q.id (place_of q) space cs)

pub noted_more : (ps : List PlacedChange) (i : ℕ) (p : PlacedChange) → i < length ps → p ≡ get_or ps i p → (space : spaces.Space) (cs : Changes) → noted (take (i + 1) ps) space cs ≡ put_change p.id (place_of p) space (noted (take i ps) space cs)
noted_more ps i p lt is space cs =
    ap (λ l. noted l space cs) (take_more ps i p lt) ∙ (λ j. noted (take i ps ++ sym is j ∷ []) space cs) ∙ noted_last (take i ps) p space cs
