use Rattle.std.proofs.Common.{◌∙◌, ◌+◌, map, sym, ap}
use Rattle.oc_layout.specs.declared.cells.Cell.{Cell}
use Rattle.oc_room.specs.Rooms.{open_at, owners}
use Rattle.oc_slots.proofs.PlacedSlots.{sizes_are}
use Rattle.oc_slots.proofs.preparing.place_changes.Goals as goal

pub returns-in-Ok-plan_changes-clause-sizes : goal.returns-in-Ok-plan_changes-clause-sizes
returns-in-Ok-plan_changes-clause-sizes c =
    let given = c.in-Ok.ensures.lengths ∙ c.deref-2.ensures.value ∙ c.in_ok-lengths.ensures ∙ ap Rattle.oc_slots.specs.Slots.lengths_of c.deref.ensures.value in
    sizes_are c.args.changes.items c.in-Ok-plan_changes.placed.items c.in-Ok-plan_changes.ensures.changes (ap (map (λ (x : Cell). x.len)) (c.in-Ok-plan_changes.ensures.cells ∙ c.deref-3.ensures.value) ∙ given)

pub returns-clause-fault : goal.returns-clause-fault
returns-clause-fault c =
    c.take_back.ensures.same c.args.room.now c.end-end.ensures.is_room (sym c.in-Ok.ensures.unit) (sym c.in-Ok.ensures.limit) (sym c.end-end.ensures.value)
    (λ k. c.in-Ok.ensures.open k ∙ (λ i. open_at c.place.new.self k + owners c.args.room.now.unit (sym c.deref-in-Err-plan_changes.ensures.value i) k))
