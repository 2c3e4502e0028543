use Rattle.std.proofs.Common.{◌≡◌, ◌∙◌, length, sym, ap, subst, arith}
use Rattle.std.proofs.lemmas.List.{length-map}
use Rattle.oc_layout.specs.declared.cells.Cell.{Cell}
use Rattle.oc_room.specs.Rooms.{IsSame, GoesBack}
use Rattle.oc_room.proofs.Placed.{goes_back_too}
use Rattle.oc_room.proofs.tests.the_last_placed_is_taken_back_first.Goals as goal

-- the pages are taken back, and the room is as it was when the slots had been placed
pub take_back-requires-2 : goal.take_back-requires-2
take_back-requires-2 g c =
    let mid = c.place.new.self in
    let same : IsSame mid c.take_back.new.self = c.take_back.ensures.same mid c.place.ensures.is_room (sym c.place-2.ensures.unit) (sym c.place-2.ensures.limit) (sym c.end-end.ensures.value) (λ k. rw c.deref.ensures.value (c.in_ok-pages.ensures.open k)) in
    let slots : length c.in_ok-slots.slots.items ≡ 2 = sym (length-map c.in_ok-slots.slots.items (λ (cell : Cell). cell.len)) ∙ ap length c.in_ok-slots.ensures.lengths in
    let pages : length c.deref.result.now ≡ length c.in_ok-pages.pages.items = ap length c.deref.ensures.value in
    rw c.deref-2.ensures.value (goes_back_too mid c.take_back.new.self c.in_ok-slots.slots.items 8 same (omega (arith, slots, pages, c.take_back.ensures.spare, c.in_ok-pages.ensures.spare)) (subst (GoesBack mid c.in_ok-slots.slots.items) c.new-room.ensures.end c.in_ok-slots.ensures.back))
