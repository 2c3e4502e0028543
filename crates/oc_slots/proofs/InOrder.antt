-- Cells in order, one row behind another, and how far the file reaches once something stands in each.
use Rattle.std.proofs.Common.{◌≡◌, ◌∙◌, ℕ, zero, suc, ◌+◌, ◌*◌, ◌<◌, ◌≤◌, max, List, [], ◌∷◌, ◌++◌, length, map, get_or, sym, ap, subst, refl, arith}
use Rattle.std.specs.Prelude.{All}
use Rattle.oc_layout.specs.declared.cells.Cell.{Cell}
use Rattle.oc_layout.specs.Layout.{blocks}
use Rattle.oc_room.specs.Rooms.{AreInOrder}
use Rattle.oc_slots.specs.declared.placed.Slot.{Slot}
use Rattle.oc_slots.specs.Pieces.{end_of, end_after}
use Rattle.oc_slots.specs.Planning.{end_over}
use Rattle.oc_slots.proofs.PageWrites.{blocks_from, blocks_max}
use Rattle.oc_slots.proofs.Things.{tail_of}

-- the first of them end where the others begin
pub order_split : (unit end last : ℕ) (xs ys : List Cell) → AreInOrder unit end (xs ++ ys) last → (middle : ℕ) × AreInOrder unit end xs middle × AreInOrder unit middle ys last
order_split unit end last [] ys order = (end, refl, order)
order_split unit end last (x ∷ xs) ys order =
    let rest = order_split unit (max end (x.at + blocks unit x.len)) last xs ys order.1 in
    (rest.0, (order.0, rest.1), rest.2)

-- they end in the last block of the file that they reach
pub order_blocks : (unit len last : ℕ) (cells : List Cell) → 0 < unit → AreInOrder unit (blocks unit len) cells last → last ≡ blocks unit (end_over unit len cells)
order_blocks unit len last [] pos order = order
order_blocks unit len last (c ∷ cs) pos order =
    let grown : blocks unit (max len (c.at * unit + c.len)) ≡ max (blocks unit len) (c.at + blocks unit c.len) = blocks_max unit len (c.at * unit + c.len) pos ∙ ap (max (blocks unit len)) (blocks_from unit c.at c.len pos) in
    order_blocks unit (max len (c.at * unit + c.len)) last cs pos (subst (λ n. AreInOrder unit n cs last) (sym grown) order.1)

pub over_append : (unit len : ℕ) (xs ys : List Cell) → end_over unit len (xs ++ ys) ≡ end_over unit (end_over unit len xs) ys
over_append unit len [] ys = refl
over_append unit len (x ∷ xs) ys = over_append unit (max len (x.at * unit + x.len)) xs ys

-- slots that are as long as their cells
pub after_over : (unit len : ℕ) (ss : List Slot) → All (λ s. s.cell.len ≡ length s.bytes) ss → end_after unit len ss ≡ end_over unit len (map (λ s. s.cell) ss)
after_over unit len [] sizes = refl
after_over unit len (s ∷ ss) sizes =
    after_over unit (max len (end_of unit s)) ss (tail_of (λ s. s.cell.len ≡ length s.bytes) s ss sizes)
    ∙ ap (λ n. end_over unit (max len (s.cell.at * unit + n)) (map (λ s. s.cell) ss)) (sym (sizes 0 s (omega arith)))

pub end_grows_over : (unit len : ℕ) (cells : List Cell) → len ≤ end_over unit len cells
end_grows_over unit len [] = omega arith
end_grows_over unit len (c ∷ cs) = omega (arith, end_grows_over unit (max len (c.at * unit + c.len)) cs)

-- each of the cells ends within it
pub over_holds : (unit len : ℕ) (cells : List Cell) (i : ℕ) (d : Cell) → i < length cells → (get_or cells i d).at * unit + (get_or cells i d).len ≤ end_over unit len cells
over_holds unit len [] i d lt = absurd (omega (arith, lt))
over_holds unit len (c ∷ cs) zero d lt = omega (arith, end_grows_over unit (max len (c.at * unit + c.len)) cs)
over_holds unit len (c ∷ cs) (suc i) d lt = over_holds unit (max len (c.at * unit + c.len)) cs i d (omega (arith, lt))
