use Rattle.std.proofs.Common.{◌∙◌, sym, ap}
use Rattle.oc_layout.specs.Headers.{is_in_range}
use Rattle.oc_layout.specs.Layout.{unit_of, room_of, blocks}
use Rattle.oc_slots.specs.Attaching.{with_closed}
use Rattle.oc_slots.proofs.FormParts.{settled_kept}
use Rattle.oc_slots.proofs.judging.store_of.Goals as goal

pub store_with-requires-clause-in_range : goal.store_with-requires-clause-in_range
store_with-requires-clause-in_range c =
    let f = c.args.front.now in
    ap is_in_range (c.closed.ensures ∙ ap with_closed c.requires.header ∙ settled_kept f.header f.writes.items) ∙ c.requires.in_range

pub store_with-requires-clause-page_unit : goal.store_with-requires-clause-page_unit
store_with-requires-clause-page_unit c =
    let f = c.args.front.now in
    c.requires.unit ∙ sym (ap unit_of (c.closed.ensures ∙ ap with_closed c.requires.header ∙ settled_kept f.header f.writes.items))

pub store_with-requires-clause-unit : goal.store_with-requires-clause-unit
store_with-requires-clause-unit c =
    let f = c.args.front.now in
    c.in_ok-room.ensures.unit ∙ sym (ap unit_of (c.closed.ensures ∙ ap with_closed c.requires.header ∙ settled_kept f.header f.writes.items))

pub store_with-requires-clause-limit : goal.store_with-requires-clause-limit
store_with-requires-clause-limit c =
    let f = c.args.front.now in
    c.in_ok-room.ensures.limit ∙ sym (ap room_of (c.closed.ensures ∙ ap with_closed c.requires.header ∙ settled_kept f.header f.writes.items))

pub store_with-requires-clause-end : goal.store_with-requires-clause-end
store_with-requires-clause-end c =
    let f = c.args.front.now in
    c.in_ok-room.ensures.end ∙ ap (λ u. blocks u c.args.len) (sym (ap unit_of (c.closed.ensures ∙ ap with_closed c.requires.header ∙ settled_kept f.header f.writes.items)))
