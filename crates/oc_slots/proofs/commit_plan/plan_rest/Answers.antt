use Rattle.std.proofs.Common.{◌∙◌, ◌≤◌, ◌<◌, ◌+◌, ◌++◌, [], ◌∷◌, List, length, replicate, sym, ap, subst, refl, rules, arith}
use Rattle.std.specs.Prelude.{All, IsErrOf}
use Rattle.oc_layout.specs.declared.cells.Space.TheVariants.{Objects, System}
use Rattle.oc_layout.specs.Layout.{unit_of, is_wide}
use Rattle.oc_pages.specs.Order.{AreAscending}
use Rattle.oc_pages.specs.Pages.{IsMissing}
use Rattle.oc_room.specs.Rooms.{Placed}
use Rattle.oc_slots.specs.declared.fault.SpaceFault.TheVariants as SpaceFault
use Rattle.oc_slots.specs.declared.placed.PlacedChange.{PlacedChange}
use Rattle.oc_slots.specs.declared.turnover.Pointing.{Pointing}
use Rattle.oc_slots.specs.Slots.{cells_of}
use Rattle.oc_slots.specs.Stores.{fresh_of}
use Rattle.oc_slots.specs.Planning.{log_length, end_over}
use Rattle.oc_slots.specs.Turnovers.{is_moved, numbers_in}
use Rattle.oc_slots.proofs.AddedPages.{missing_new, held_new}
use Rattle.oc_slots.proofs.PlanGrounds.{later_some, apart_pages, few_freed}
use Rattle.oc_slots.proofs.PlanLengths.{lengths_some}
use Rattle.oc_slots.proofs.PlanMoves.{one_moves}
use Rattle.oc_slots.proofs.PlanRests.{turned, lengths_known, log_of, added_count, cells_whole, log_len, log_fits, opened_there, order_there}
use Rattle.std.proofs.lemmas.Bool.Decides.{nat_tests}
use Rattle.oc_slots.proofs.commit_plan.plan_rest.Goals as goal

pub turn_over-requires-clause-some : goal.turn_over-requires-clause-some
turn_over-requires-clause-some c =
    subst (λ (l : List PlacedChange). All (λ x. 1 ≤ x.len) (fresh_of c.args.overlay.now ++ cells_of l)) (sym c.deref.ensures.value)
    (later_some c.args.header.now c.args.pages.now c.args.overlay.now c.args.room.now c.args.changes.items c.args.others c.requires)

pub turn_over-requires-clause-apart : goal.turn_over-requires-clause-apart
turn_over-requires-clause-apart c =
    apart_pages c.args.header.now c.args.pages.now c.args.overlay.now c.args.room.now c.args.changes.items c.args.others c.requires

pub place_log-requires-clause-some : goal.place_log-requires-clause-some
place_log-requires-clause-some c =
    let missing = c.in_ok-missing.missing in
    subst (All (λ n. 1 ≤ n)) (sym (c.deref-4.ensures.value ∙ c.in_ok-lengths.ensures)) (lengths_some (length missing.objects.items + length missing.system.items) (log_length (is_wide c.args.header.now) (length missing.objects.items + length missing.system.items) c.deref-3.result.now) (omega arith))

pub place_log-requires-clause-freed : goal.place_log-requires-clause-freed
place_log-requires-clause-freed c =
    let t = turned c.args.pages.now.unit (unit_of c.args.header.now) c.args.pages.now.pages c.args.overlay.now c.deref.result.now c.args.changes.items c.in_ok-turnover.turnover.pointings.items c.in_ok-turnover.turnover.freed.items
    c.in_ok-turnover.ensures c.requires.page_unit c.deref.ensures.value in
    few_freed c.args.header.now c.args.pages.now c.args.overlay.now c.args.room.now c.args.changes.items c.args.others c.requires c.in_ok-turnover.turnover.pointings.items c.in_ok-turnover.turnover.freed.items t

pub place_log-requires-clause-log : goal.place_log-requires-clause-log
place_log-requires-clause-log c cells added lens fits new =
    let pages = c.args.pages.now.pages in
    let ps = c.in_ok-turnover.turnover.pointings.items in
    let objects = c.in_ok-missing.missing.objects.items in
    let system = c.in_ok-missing.missing.system.items in
    let t = turned c.args.pages.now.unit (unit_of c.args.header.now) pages c.args.overlay.now c.deref.result.now c.args.changes.items ps c.in_ok-turnover.turnover.freed.items c.in_ok-turnover.ensures c.requires.page_unit c.deref.ensures.value in
    let some : 0 < length c.in_ok-turnover.turnover.pointings.items = search rules in
    log_of c.args.header.now c.args.pages.now c.args.overlay.now c.args.room.now c.args.changes.items c.args.others c.requires ps c.in_ok-turnover.turnover.freed.items some t objects system
    (subst (λ (l : List Pointing). AreAscending (IsMissing pages Objects (numbers_in Objects l)) objects) c.deref-2.ensures.value c.in_ok-missing.ensures.objects)
    (subst (λ (l : List Pointing). AreAscending (IsMissing pages System (numbers_in System l)) system) c.deref-2.ensures.value c.in_ok-missing.ensures.system)
    cells added
    (lens ∙ c.deref-4.ensures.value ∙ c.in_ok-lengths.ensures ∙ ap (λ (l : List Pointing). replicate (length objects + length system) 1024 ++ log_length (is_wide c.args.header.now) (length objects + length system) l ∷ []) c.deref-3.ensures.value)
    fits new

pub returns-clause-plan : goal.returns-clause-plan
returns-clause-plan c =
    let h = c.args.header.now in
    let pages = c.args.pages.now.pages in
    let room = c.args.room.now in
    let r = c.place_log.new.room in
    let ps = c.in_ok-turnover.turnover.pointings.items in
    let objects = c.in_ok-missing.missing.objects.items in
    let system = c.in_ok-missing.missing.system.items in
    let cells = c.in_ok-cells.cells.items in
    let log = c.in_ok-cells.log in
    let placed = c.in_ok-cells.ensures.placed in
    let is = c.in_ok-cells.ensures.log in
    let t = turned c.args.pages.now.unit (unit_of c.args.header.now) pages c.args.overlay.now c.deref.result.now c.args.changes.items ps c.in_ok-turnover.turnover.freed.items c.in_ok-turnover.ensures c.requires.page_unit c.deref.ensures.value in
    let of_objects = subst (λ (l : List Pointing). AreAscending (IsMissing pages Objects (numbers_in Objects l)) objects) c.deref-2.ensures.value c.in_ok-missing.ensures.objects in
    let of_system = subst (λ (l : List Pointing). AreAscending (IsMissing pages System (numbers_in System l)) system) c.deref-2.ensures.value c.in_ok-missing.ensures.system in
    let lens_are = c.deref-4.ensures.value ∙ c.in_ok-lengths.ensures ∙ ap (λ (l : List Pointing). replicate (length objects + length system) 1024 ++ log_length (is_wide c.args.header.now) (length objects + length system) l ∷ []) c.deref-3.ensures.value in
    let whole = cells_whole h room r objects system ps cells log c.deref-4.result.now placed is lens_are in
    let some : 0 < length c.in_ok-turnover.turnover.pointings.items = grind (arith, nat_tests, c.is_empty.ensures, c.if-is_empty.false) in
    record {
      placed = refl;
      planned = refl;
      turnover = t;
      missing = missing_new pages ps objects system cells log.added.items of_objects of_system is.added;
      held = held_new pages ps objects system cells log.added.items of_objects of_system is.added t.numbers;
      some = omega (arith, some);
      fits = log_fits h room r objects system ps cells log c.deref-4.result.now placed is lens_are c.in_ok-cells.ensures.room c.place_log.ensures.is_room;
      log = log_len h room r objects system ps cells log c.deref-4.result.now placed is lens_are;
      writes = is.writes;
      wide = is.wide;
      unit = is.unit;
      header = is.header;
      end = c.end_over.ensures ∙ (λ i. end_over ((c.unit-unit.ensures.value ∙ c.requires.page_unit) i) c.args.planned.end ((c.deref-5.ensures.value ∙ whole) i));
      opened = opened_there h room r objects system ps cells log c.deref-4.result.now placed is lens_are;
      within = placed.within;
      order = order_there h room r objects system ps cells log c.deref-4.result.now placed is lens_are;
      room_unit = placed.unit;
      limit = placed.limit;
      spare = c.in_ok-cells.ensures.freed;
      pages_spare = omega (arith, c.in_ok-cells.ensures.added, added_count h room r objects system ps cells log c.deref-4.result.now placed is lens_are);
    }

pub returns-clause-lengths : goal.returns-clause-lengths
returns-clause-lengths c =
    let known =
    lengths_known c.args.header.now c.args.pages.now.unit c.args.pages.now.pages c.args.overlay.now c.deref.result.now c.args.changes.items c.in_ok-turnover.turnover.pointings.items c.deref-2.result.now c.deref-3.result.now
    c.in_ok-turnover.turnover.freed.items c.in_ok-missing.missing.objects.items c.in_ok-missing.missing.system.items c.deref-4.result.now c.in_ok-lengths.lengths.items
    c.in_ok-turnover.ensures c.requires.page_unit c.deref.ensures.value c.deref-2.ensures.value c.in_ok-missing.ensures.objects c.in_ok-missing.ensures.system c.deref-3.ensures.value c.in_ok-lengths.ensures c.deref-4.ensures.value in
    (c.deref-4.result.now, known, c.in_ok-cells.ensures.room, sym (ap (λ (q : Placed). q.end) c.in_ok-cells.ensures.placed.placed))

pub returns-in_err-cells-clause-full : goal.returns-in_err-cells-clause-full
returns-in_err-cells-clause-full c need len limit full =
    let known =
    lengths_known c.args.header.now c.args.pages.now.unit c.args.pages.now.pages c.args.overlay.now c.deref.result.now c.args.changes.items c.in_ok-turnover.turnover.pointings.items c.deref-2.result.now c.deref-3.result.now
    c.in_ok-turnover.turnover.freed.items c.in_ok-missing.missing.objects.items c.in_ok-missing.missing.system.items c.deref-4.result.now c.in_ok-lengths.lengths.items
    c.in_ok-turnover.ensures c.requires.page_unit c.deref.ensures.value c.deref-2.ensures.value c.in_ok-missing.ensures.objects c.in_ok-missing.ensures.system c.deref-3.ensures.value c.in_ok-lengths.ensures c.deref-4.ensures.value in
    let err : IsErrOf c.place_log.result (SpaceFault.Full need len limit) = search rules in
    let found = c.place_log.ensures.full need len limit err in
    (found.0, (c.deref-4.result.now, known, found.1))

pub returns-in_err-cells-clause-some_moved : goal.returns-in_err-cells-clause-some_moved
returns-in_err-cells-clause-some_moved c need len limit full =
    let pages = c.args.pages.now.pages in
    let o = c.args.overlay.now in
    let changes = c.args.changes.items in
    let ps = c.in_ok-turnover.turnover.pointings.items in
    let t = turned c.args.pages.now.unit (unit_of c.args.header.now) pages o c.deref.result.now changes ps c.in_ok-turnover.turnover.freed.items c.in_ok-turnover.ensures c.requires.page_unit c.deref.ensures.value in
    let some : 0 < length c.in_ok-turnover.turnover.pointings.items = grind (arith, nat_tests, c.is_empty.ensures, c.if-is_empty.false) in
    one_moves ps (is_moved pages o changes) (omega (arith, some)) t.moved
