use Rattle.std.proofs.Common.{◌≡◌, ◌∙◌, inl, inr, ◌≤◌, ◌+◌, ◌++◌, length, true, false, Some, None, sym, ap, subst, rules, arith}
use Rattle.std.specs.Prelude.{IsErrOf}
use Rattle.std.proofs.lemmas.Option.{IfSome_then}
use Rattle.oc_layout.specs.Layout.{is_wide}
use Rattle.oc_model.specs.Space.{Shortage}
use Rattle.oc_room.specs.Rooms.{Placed, IsSame, unplaced, placed, lacking}
use Rattle.oc_room.proofs.Orders.{lacking_before}
use Rattle.oc_slots.specs.declared.fault.SpaceFault.TheVariants as SpaceFault
use Rattle.oc_slots.specs.declared.slot.SlotId.{SlotId}
use Rattle.oc_slots.specs.Slots.{cells_of, lengths_of}
use Rattle.oc_slots.specs.Planning.{AreSlotsPlaced, moves}
use Rattle.oc_slots.proofs.SessionSteps.{IsPlaced, few_fresh}
use Rattle.oc_slots.proofs.PlanExists.{lengths_are_there}
use Rattle.oc_slots.proofs.PlanMoves.{brought_moves, nothing_moves, placed_or_none}
use Rattle.oc_slots.proofs.PlanPlaces.{goes_back_still, opened_still}
use Rattle.oc_slots.proofs.PlanSteps.{placed_so, few_words, slots_placed, moves_so, lengths_all, lacking_all, end_all, plan_is}
use Rattle.oc_slots.proofs.commit_plan.plan_commit.Goals as goal

pub place_changes-requires-clause-few : goal.place_changes-requires-clause-few
place_changes-requires-clause-few c = few_fresh c.args.header.now c.args.pages.now c.args.overlay.now c.args.room.now c.args.fresh c.args.len c.requires.whole

pub returns-in_err-placed-clause-full : goal.returns-in_err-placed-clause-full
returns-in_err-placed-clause-full c need len limit full =
    let room = c.args.room.now in
    let last = c.args.last.items in
    let err : IsErrOf c.place_changes.result (SpaceFault.Full need len limit) = search rules in
    let found = c.place_changes.ensures.full need len limit err in
    let there = lengths_are_there c.args.pages.now.pages c.args.overlay.now last (is_wide c.args.header.now) in
    (found.0, (lengths_of last ++ there.0, there.1, lacking_before room.unit room.limit (unplaced room) (lengths_of last) there.0 (record { need = need; length = len }) found.1))

pub returns-in_err-placed-clause-some_moved : goal.returns-in_err-placed-clause-some_moved
unfolding lacking
returns-in_err-placed-clause-some_moved c need len limit full =
    let room = c.args.room.now in
    let pages = c.args.pages.now.pages in
    let o = c.args.overlay.now in
    let last = c.args.last.items in
    let err : IsErrOf c.place_changes.result (SpaceFault.Full need len limit) = search rules in
    let found = c.place_changes.ensures.full need len limit err in
    elim (placed_or_none last c.requires.changes.distinct) [
      | inl nothing ↦ absurd (fits (ap (lacking room.unit room.limit (unplaced room)) (sym nothing) ∙ found.1))
      | inr some ↦ (some.0, brought_moves pages o last some.0 some.1)
    ]
  where
    fits : {s : Shortage} → None ≡ Some s → ⊥
    fits e = cc

pub overflow_cast-others : goal.overflow_cast-others
overflow_cast-others c =
    let h = c.args.header.now in
    let pages = c.args.pages.now in
    let o = c.args.overlay.now in
    let p = c.place_changes.new.overlay in
    let room = c.args.room.now in
    let r = c.place_changes.new.room in
    let ps = c.in_ok-placed.field-0.placed.items in
    let f : IsPlaced c.args.header.now c.args.pages.now c.args.overlay.now c.place_changes.new.overlay c.args.room.now c.place_changes.new.room c.args.fresh c.args.len c.args.last.items c.in_ok-placed.field-0.placed.items c.in_ok-placed.field-0.planned =
    placed_so h pages o p room r c.args.fresh c.args.len c.args.last.items ps c.in_ok-placed.field-0.planned c.unit-unit.result c.requires.whole c.requires.changes c.in_ok-placed.ensures.changes c.in_ok-placed.ensures.sizes
    c.in_ok-placed.ensures.open c.in_ok-placed.ensures.back c.in_ok-placed.ensures.planned (c.unit-unit.ensures.value ∙ c.requires.whole.page_unit) c.in_ok-placed.ensures.room_spare c.place_changes.ensures.same c.place_changes.ensures.unit c.place_changes.ensures.limit c.place_changes.ensures.is_room in
    let counted : c.len.result ≡ length c.in_ok-placed.field-0.cells.items = search rules in
    omega (arith, few_words h pages o p room r c.args.fresh c.args.len c.args.last.items ps c.in_ok-placed.field-0.planned f, counted, ap length c.in_ok-placed.ensures.cells)

pub overflow_add-others : goal.overflow_add-others
overflow_add-others c =
    let h = c.args.header.now in
    let pages = c.args.pages.now in
    let o = c.args.overlay.now in
    let p = c.place_changes.new.overlay in
    let room = c.args.room.now in
    let r = c.place_changes.new.room in
    let ps = c.in_ok-placed.field-0.placed.items in
    let f : IsPlaced c.args.header.now c.args.pages.now c.args.overlay.now c.place_changes.new.overlay c.args.room.now c.place_changes.new.room c.args.fresh c.args.len c.args.last.items c.in_ok-placed.field-0.placed.items c.in_ok-placed.field-0.planned =
    placed_so h pages o p room r c.args.fresh c.args.len c.args.last.items ps c.in_ok-placed.field-0.planned c.unit-unit.result c.requires.whole c.requires.changes c.in_ok-placed.ensures.changes c.in_ok-placed.ensures.sizes
    c.in_ok-placed.ensures.open c.in_ok-placed.ensures.back c.in_ok-placed.ensures.planned (c.unit-unit.ensures.value ∙ c.requires.whole.page_unit) c.in_ok-placed.ensures.room_spare c.place_changes.ensures.same c.place_changes.ensures.unit c.place_changes.ensures.limit c.place_changes.ensures.is_room in
    let counted : c.len.result ≡ length c.in_ok-placed.field-0.cells.items = search rules in
    omega (arith, few_words h pages o p room r c.args.fresh c.args.len c.args.last.items ps c.in_ok-placed.field-0.planned f, counted, ap length c.in_ok-placed.ensures.cells)

pub plan_rest-requires : goal.plan_rest-requires
plan_rest-requires c =
    let h = c.args.header.now in
    let pages = c.args.pages.now in
    let o = c.args.overlay.now in
    let p = c.place_changes.new.overlay in
    let room = c.args.room.now in
    let r = c.place_changes.new.room in
    let ps = c.in_ok-placed.field-0.placed.items in
    let f : IsPlaced c.args.header.now c.args.pages.now c.args.overlay.now c.place_changes.new.overlay c.args.room.now c.place_changes.new.room c.args.fresh c.args.len c.args.last.items c.in_ok-placed.field-0.placed.items c.in_ok-placed.field-0.planned =
    placed_so h pages o p room r c.args.fresh c.args.len c.args.last.items ps c.in_ok-placed.field-0.planned c.unit-unit.result c.requires.whole c.requires.changes c.in_ok-placed.ensures.changes c.in_ok-placed.ensures.sizes
    c.in_ok-placed.ensures.open c.in_ok-placed.ensures.back c.in_ok-placed.ensures.planned (c.unit-unit.ensures.value ∙ c.requires.whole.page_unit) c.in_ok-placed.ensures.room_spare c.place_changes.ensures.same c.place_changes.ensures.unit c.place_changes.ensures.limit c.place_changes.ensures.is_room in
    let counted : c.len.result ≡ length c.in_ok-placed.field-0.cells.items = search rules in
    subst (λ n. AreSlotsPlaced h pages p r ps (c.args.fresh + n)) (sym (counted ∙ ap length c.in_ok-placed.ensures.cells)) (slots_placed h pages o p room r c.args.fresh c.args.len c.args.last.items ps c.in_ok-placed.field-0.planned f)

pub take_back-requires : goal.take_back-requires
take_back-requires c =
    let cells = cells_of c.in_ok-placed.field-0.placed.items in
    let counted : c.len.result ≡ length c.in_ok-placed.field-0.cells.items = search rules in
    let spare : length cells ≤ c.plan_rest.new.room.spare = omega (arith, c.plan_rest.ensures.spare, counted, ap length c.in_ok-placed.ensures.cells) in
    goes_back_still c.args.room.now c.place_changes.new.room c.plan_rest.new.room cells c.deref.result.now c.end-end.result c.in_ok-placed.ensures.back c.in-Err.ensures.fault spare
    (c.deref.ensures.value ∙ c.in_ok-placed.ensures.cells) c.end-end.ensures.value

pub returns-clause-fault : goal.returns-clause-fault
returns-clause-fault c =
    c.take_back.ensures.same c.args.room.now c.end-end.ensures.is_room (sym (c.in-Err.ensures.fault.unit ∙ c.place_changes.ensures.unit)) (sym (c.in-Err.ensures.fault.limit ∙ c.place_changes.ensures.limit)) (sym c.end-end.ensures.value)
    (opened_still c.args.room.now c.place_changes.new.room c.plan_rest.new.room (cells_of c.in_ok-placed.field-0.placed.items) c.deref.result.now c.in_ok-placed.ensures.open c.in-Err.ensures.fault (c.deref.ensures.value ∙ c.in_ok-placed.ensures.cells))

pub returns-clause-full : goal.returns-clause-full
returns-clause-full c need len limit full =
    let h = c.args.header.now in
    let pages = c.args.pages.now in
    let o = c.args.overlay.now in
    let p = c.place_changes.new.overlay in
    let room = c.args.room.now in
    let r = c.place_changes.new.room in
    let ps = c.in_ok-placed.field-0.placed.items in
    let f : IsPlaced c.args.header.now c.args.pages.now c.args.overlay.now c.place_changes.new.overlay c.args.room.now c.place_changes.new.room c.args.fresh c.args.len c.args.last.items c.in_ok-placed.field-0.placed.items c.in_ok-placed.field-0.planned =
    placed_so h pages o p room r c.args.fresh c.args.len c.args.last.items ps c.in_ok-placed.field-0.planned c.unit-unit.result c.requires.whole c.requires.changes c.in_ok-placed.ensures.changes c.in_ok-placed.ensures.sizes
    c.in_ok-placed.ensures.open c.in_ok-placed.ensures.back c.in_ok-placed.ensures.planned (c.unit-unit.ensures.value ∙ c.requires.whole.page_unit) c.in_ok-placed.ensures.room_spare c.place_changes.ensures.same c.place_changes.ensures.unit c.place_changes.ensures.limit c.place_changes.ensures.is_room in
    let found = c.in-Err.ensures.full need len limit full in
    let lens = found.1.0 in
    let cells = cells_of ps in (
      found.0 ∙ c.place_changes.ensures.limit,
      (
        lengths_of c.args.last.items ++ lens,
        lengths_all h pages o p room r c.args.fresh c.args.len c.args.last.items ps c.in_ok-placed.field-0.planned f cells c.in_ok-placed.ensures.placed c.in_ok-placed.ensures.room lens found.1.1,
        lacking_all h pages o p room r c.args.fresh c.args.len c.args.last.items ps c.in_ok-placed.field-0.planned f cells c.in_ok-placed.ensures.placed c.in_ok-placed.ensures.room lens ∙ found.1.2,
      ),
    )

pub returns-clause-some_moved : goal.returns-clause-some_moved
returns-clause-some_moved c need len limit full =
    let h = c.args.header.now in
    let pages = c.args.pages.now in
    let o = c.args.overlay.now in
    let p = c.place_changes.new.overlay in
    let room = c.args.room.now in
    let r = c.place_changes.new.room in
    let ps = c.in_ok-placed.field-0.placed.items in
    let f : IsPlaced c.args.header.now c.args.pages.now c.args.overlay.now c.place_changes.new.overlay c.args.room.now c.place_changes.new.room c.args.fresh c.args.len c.args.last.items c.in_ok-placed.field-0.placed.items c.in_ok-placed.field-0.planned =
    placed_so h pages o p room r c.args.fresh c.args.len c.args.last.items ps c.in_ok-placed.field-0.planned c.unit-unit.result c.requires.whole c.requires.changes c.in_ok-placed.ensures.changes c.in_ok-placed.ensures.sizes
    c.in_ok-placed.ensures.open c.in_ok-placed.ensures.back c.in_ok-placed.ensures.planned (c.unit-unit.ensures.value ∙ c.requires.whole.page_unit) c.in_ok-placed.ensures.room_spare c.place_changes.ensures.same c.place_changes.ensures.unit c.place_changes.ensures.limit c.place_changes.ensures.is_room in
    let found = c.in-Err.ensures.some_moved need len limit full in
    (found.0, sym (moves_so h pages o p room r c.args.fresh c.args.len c.args.last.items ps c.in_ok-placed.field-0.planned f found.0) ∙ found.1)

pub returns-in-Ok-clause-plan : goal.returns-in-Ok-clause-plan
returns-in-Ok-clause-plan c =
    let h = c.args.header.now in
    let pages = c.args.pages.now in
    let o = c.args.overlay.now in
    let p = c.place_changes.new.overlay in
    let room = c.args.room.now in
    let r = c.place_changes.new.room in
    let ps = c.in_ok-placed.field-0.placed.items in
    let f : IsPlaced c.args.header.now c.args.pages.now c.args.overlay.now c.place_changes.new.overlay c.args.room.now c.place_changes.new.room c.args.fresh c.args.len c.args.last.items c.in_ok-placed.field-0.placed.items c.in_ok-placed.field-0.planned =
    placed_so h pages o p room r c.args.fresh c.args.len c.args.last.items ps c.in_ok-placed.field-0.planned c.unit-unit.result c.requires.whole c.requires.changes c.in_ok-placed.ensures.changes c.in_ok-placed.ensures.sizes
    c.in_ok-placed.ensures.open c.in_ok-placed.ensures.back c.in_ok-placed.ensures.planned (c.unit-unit.ensures.value ∙ c.requires.whole.page_unit) c.in_ok-placed.ensures.room_spare c.place_changes.ensures.same c.place_changes.ensures.unit c.place_changes.ensures.limit c.place_changes.ensures.is_room in
    let q = c.plan_rest.new.pages in
    let t = c.plan_rest.new.room in
    IfSome_then c.in-Ok.plan c.in-Ok.ensures.plan (λ plan rest. plan_is h pages o p room r c.args.fresh c.args.len c.args.last.items ps c.in_ok-placed.field-0.planned f c.in_ok-placed.ensures.order plan q t rest c.plan_rest.ensures.is_room c.plan_rest.ensures.pages c.plan_rest.ensures.unit)

pub returns-in-Ok-clause-lengths : goal.returns-in-Ok-clause-lengths
returns-in-Ok-clause-lengths c =
    let h = c.args.header.now in
    let pages = c.args.pages.now in
    let o = c.args.overlay.now in
    let p = c.place_changes.new.overlay in
    let room = c.args.room.now in
    let r = c.place_changes.new.room in
    let ps = c.in_ok-placed.field-0.placed.items in
    let f : IsPlaced c.args.header.now c.args.pages.now c.args.overlay.now c.place_changes.new.overlay c.args.room.now c.place_changes.new.room c.args.fresh c.args.len c.args.last.items c.in_ok-placed.field-0.placed.items c.in_ok-placed.field-0.planned =
    placed_so h pages o p room r c.args.fresh c.args.len c.args.last.items ps c.in_ok-placed.field-0.planned c.unit-unit.result c.requires.whole c.requires.changes c.in_ok-placed.ensures.changes c.in_ok-placed.ensures.sizes
    c.in_ok-placed.ensures.open c.in_ok-placed.ensures.back c.in_ok-placed.ensures.planned (c.unit-unit.ensures.value ∙ c.requires.whole.page_unit) c.in_ok-placed.ensures.room_spare c.place_changes.ensures.same c.place_changes.ensures.unit c.place_changes.ensures.limit c.place_changes.ensures.is_room in
    let cells = cells_of ps in
    let slots = c.in_ok-placed.ensures.placed in
    let none = c.in_ok-placed.ensures.room in
    IfSome_then c.in-Ok.plan c.in-Ok.ensures.lengths (λ _ rest. (
      lengths_of c.args.last.items ++ rest.0,
      lengths_all h pages o p room r c.args.fresh c.args.len c.args.last.items ps c.in_ok-placed.field-0.planned f cells slots none rest.0 rest.1,
      lacking_all h pages o p room r c.args.fresh c.args.len c.args.last.items ps c.in_ok-placed.field-0.planned f cells slots none rest.0 ∙ rest.2,
      rest.3 ∙ sym (end_all h pages o p room r c.args.fresh c.args.len c.args.last.items ps c.in_ok-placed.field-0.planned f cells slots none rest.0),
    ))

pub returns-in-Ok-clause-idle : goal.returns-in-Ok-clause-idle
returns-in-Ok-clause-idle c none =
    let h = c.args.header.now in
    let pages = c.args.pages.now in
    let o = c.args.overlay.now in
    let p = c.place_changes.new.overlay in
    let room = c.args.room.now in
    let r = c.place_changes.new.room in
    let ps = c.in_ok-placed.field-0.placed.items in
    let f : IsPlaced c.args.header.now c.args.pages.now c.args.overlay.now c.place_changes.new.overlay c.args.room.now c.place_changes.new.room c.args.fresh c.args.len c.args.last.items c.in_ok-placed.field-0.placed.items c.in_ok-placed.field-0.planned =
    placed_so h pages o p room r c.args.fresh c.args.len c.args.last.items ps c.in_ok-placed.field-0.planned c.unit-unit.result c.requires.whole c.requires.changes c.in_ok-placed.ensures.changes c.in_ok-placed.ensures.sizes
    c.in_ok-placed.ensures.open c.in_ok-placed.ensures.back c.in_ok-placed.ensures.planned (c.unit-unit.ensures.value ∙ c.requires.whole.page_unit) c.in_ok-placed.ensures.room_spare c.place_changes.ensures.same c.place_changes.ensures.unit c.place_changes.ensures.limit c.place_changes.ensures.is_room in
    let idle = c.in-Ok.ensures.idle none in
    let still : (id : SlotId) → moves c.args.pages.now.pages c.args.overlay.now c.args.last.items id ≡ false = λ id. sym (moves_so h pages o p room r c.args.fresh c.args.len c.args.last.items ps c.in_ok-placed.field-0.planned f id) ∙ idle.0 id in
    let nothing = nothing_moves c.args.pages.now.pages c.args.overlay.now c.args.last.items c.requires.changes.distinct still in
    let same = ap (placed room.unit (unplaced room)) (sym nothing) ∙ c.in_ok-placed.ensures.placed in (
      λ id moving. absurd (clash (sym (still id) ∙ moving)),
      nothing,
      subst (IsSame room) (sym idle.1) (record {
        unit = c.place_changes.ensures.unit;
        parts = sym (ap (λ (x : Placed). x.parts) same);
        end = sym (ap (λ (x : Placed). x.end) same);
        limit = c.place_changes.ensures.limit;
      }),
    )
  where
    clash : false ≡ true → ⊥
    clash e = cc
