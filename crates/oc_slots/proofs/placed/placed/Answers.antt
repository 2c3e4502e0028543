use Rattle.std.proofs.Common.{◌≡◌, ◌∙◌, ◌≤◌, map, length, ◌++◌, [], ◌∷◌, ap, subst, sym}
use Rattle.std.proofs.lemmas.List.{append_assoc, map-append}
use Rattle.oc_slots.specs.declared.placed.PlacedChange.{PlacedChange}
use Rattle.oc_slots.specs.Slots.{change_of, lengths_of}
use Rattle.oc_slots.proofs.PlacedSlots.{next_has, next_cells, front_cells}
use Rattle.oc_slots.proofs.placed.placed.Goals as goal

pub with_place-slot-requires : goal.with_place-slot-requires
with_place-slot-requires c =
    let whole = ap (λ l. c.loop-change.yielded ++ l) (sym c.in-Some.ensures.steps.0) ∙ c.loop-change.invariant.2 in
    next_has c.args.cells.now c.loop-change.rest.now c.loop-change.yielded c.next.new.self.rest.items c.in-Some.change c.loop-change.placed.items c.loop-change.invariant.0 c.loop-change.invariant.1
    (subst (λ l. length (lengths_of l) ≤ length c.args.cells.now) (sym whole) c.requires)

pub loop-change-preserved : goal.loop-change-preserved
loop-change-preserved c =
    let p : PlacedChange = record { id = c.in-Some.change.id; slot = c.with_place-slot.result.0 } in
    let whole = ap (λ l. c.loop-change.yielded ++ l) (sym c.in-Some.ensures.steps.0) ∙ c.loop-change.invariant.2 in (
      ap (map change_of) c.in_ok-push.ensures.items ∙ map-append change_of c.loop-change.placed.items (p ∷ []) ∙ (λ i. c.loop-change.invariant.0 i ++ record { id = c.in-Some.change.id; bytes = c.with_place-slot.ensures.bytes i } ∷ []),
      subst (λ l. Rattle.oc_slots.specs.Slots.cells_of l ++ c.with_place-slot.result.1.now ≡ c.args.cells.now) (sym c.in_ok-push.ensures.items)
          (next_cells c.args.cells.now c.loop-change.rest.now c.with_place-slot.result.1.now c.loop-change.placed.items p c.loop-change.invariant.1 c.with_place-slot.ensures.cells),
      append_assoc c.loop-change.yielded (c.in-Some.change ∷ []) c.next.new.self.rest.items ∙ whole,
    )

pub returns-clause-cells : goal.returns-clause-cells
returns-clause-cells c = front_cells c.args.cells.now c.loop-change.rest.now c.loop-change.placed.items c.loop-change.invariant.1
