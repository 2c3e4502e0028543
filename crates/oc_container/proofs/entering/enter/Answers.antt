use Rattle.std.proofs.Common.{sym, ap, ◌∙◌}
use Rattle.oc_container.specs.Places.{is_at, place_of}
use Rattle.oc_container.proofs.Entries.{entered_at}
use Rattle.oc_container.proofs.entering.enter.Goals as goal

pub returns-then-is_at : goal.returns-then-is_at
returns-then-is_at c =
    let es = c.args.entries.now.items in
    let e = c.args.entry in
    sym (entered_at e es c.place_of-place.result _ (c.place_of-place.ensures.value ∙ ap (place_of e.id) c.deref.ensures.value)
    (sym c.if-is_at.true ∙ c.is_at.ensures ∙ ap (λ xs. is_at xs c.place_of-place.result e.id) c.deref-2.ensures.value))

pub returns-in_ok-insert : goal.returns-in_ok-insert
returns-in_ok-insert c =
    let es = c.args.entries.now.items in
    let e = c.args.entry in
    c.in_ok-insert.ensures.items
    ∙ sym (entered_at e es c.place_of-place.result _ (c.place_of-place.ensures.value ∙ ap (place_of e.id) c.deref.ensures.value)
    (sym c.if-is_at.false ∙ c.is_at.ensures ∙ ap (λ xs. is_at xs c.place_of-place.result e.id) c.deref-2.ensures.value))
