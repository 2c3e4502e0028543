use Rattle.std.proofs.Common.{◌∙◌, ◌≤◌, List, length, sym, ap, subst, arith}
use Rattle.oc_layout.specs.declared.cells.Cell.{Cell}
use Rattle.oc_slots.specs.Turnovers.{AreNew}
use Rattle.oc_room.proofs.Orders.{cells_fit}
use Rattle.oc_room.specs.Rooms.{unplaced}
use Rattle.oc_slots.proofs.PlanPlaces.{goes_back_still, opened_still, placed_still, few_placed}
use Rattle.oc_slots.proofs.commit_plan.place_log.Goals as goal

pub plan_at-requires-clause-few : goal.plan_at-requires-clause-few
plan_at-requires-clause-few c =
    let few = few_placed c.args.room.now c.place.new.self c.in-Ok.cells.items c.place.ensures.was_room c.place.ensures.is_room c.in-Ok.ensures.open c.in-Ok.ensures.back.some in
    omega (arith, few, ap length c.deref.ensures.value)

pub plan_at-requires-clause-log : goal.plan_at-requires-clause-log
plan_at-requires-clause-log c added new =
    let cells = c.in-Ok.cells.items in
    let room = c.args.room.now in
    let short : c.place.new.self.end ≤ 2147483647 = omega (arith, c.place.ensures.is_room.end, c.place.ensures.is_room.limit) in
    c.requires.log cells added c.in-Ok.ensures.lengths
    (cells_fit room.unit room.limit room.end c.place.new.self.end (unplaced room) cells c.args.lengths.now c.in-Ok.ensures.room c.in-Ok.ensures.lengths c.in-Ok.ensures.order short)
    (subst (λ (l : List Cell). AreNew c.args.missing.now.objects.items c.args.missing.now.system.items l added) c.deref.ensures.value new)

pub take_back-requires : goal.take_back-requires
take_back-requires c =
    let spare : length c.in-Ok.cells.items ≤ c.plan_at.new.room.spare = omega (arith, c.in-Ok.ensures.spare, c.plan_at.ensures.spare) in
    goes_back_still c.args.room.now c.place.new.self c.plan_at.new.room c.in-Ok.cells.items c.deref-in-Err-plan_at.result.now c.end-end.result c.in-Ok.ensures.back c.plan_at.ensures.same spare c.deref-in-Err-plan_at.ensures.value c.end-end.ensures.value

pub returns-in-Err-plan_at-clause-fault : goal.returns-in-Err-plan_at-clause-fault
returns-in-Err-plan_at-clause-fault c =
    c.take_back.ensures.same c.args.room.now c.end-end.ensures.is_room (sym (c.plan_at.ensures.same.unit ∙ c.in-Ok.ensures.unit)) (sym (c.plan_at.ensures.same.limit ∙ c.in-Ok.ensures.limit)) (sym c.end-end.ensures.value)
    (opened_still c.args.room.now c.place.new.self c.plan_at.new.room c.in-Ok.cells.items c.deref-in-Err-plan_at.result.now c.in-Ok.ensures.open c.plan_at.ensures.same c.deref-in-Err-plan_at.ensures.value)

pub returns-in-Ok-plan_at-clause-placed : goal.returns-in-Ok-plan_at-clause-placed
returns-in-Ok-plan_at-clause-placed c =
    placed_still c.args.room.now c.place.new.self c.plan_at.new.room c.args.lengths.now c.in-Ok.cells.items
    (record {
      placed = c.in-Ok.ensures.placed;
      lengths = c.in-Ok.ensures.lengths;
      opened = c.in-Ok.ensures.open;
      order = c.in-Ok.ensures.order;
      within = c.in-Ok.ensures.back.within;
      unit = c.in-Ok.ensures.unit;
      limit = c.in-Ok.ensures.limit;
    })
    c.plan_at.ensures.same
