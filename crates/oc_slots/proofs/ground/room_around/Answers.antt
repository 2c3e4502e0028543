use Rattle.std.proofs.Common.{◌≡◌, ◌∙◌, sym, ap, subst, arith, Ok}
use Rattle.oc_layout.specs.Layout.{unit_of, blocks}
use Rattle.oc_room.specs.Rooms.{AreApart}
use Rattle.oc_room.proofs.Counting.{rounded_up}
use Rattle.std.specs.Int.{div_ceil}
use Rattle.oc_slots.proofs.Headers.{unit_some}
use Rattle.oc_slots.proofs.Grounds.{all_apart}
use Rattle.oc_slots.proofs.ground.room_around.Goals as goal

pub around-requires-clause-end : goal.around-requires-clause-end
around-requires-clause-end c =
    let h = c.args.header.now in
    let whole : c.div_ceil-end.result ≡ blocks (unit_of h) c.args.len = c.div_ceil-end.ensures ∙ ap (div_ceil c.args.len) c.unit.ensures ∙ rounded_up (unit_of h) c.args.len (unit_some h c.requires.in_range) in
    omega (arith, whole, c.requires.room, c.room.ensures)

pub returns-in-Some-clause-end : goal.returns-in-Some-clause-end
returns-in-Some-clause-end c =
    let h = c.args.header.now in
    let whole : c.div_ceil-end.result ≡ blocks (unit_of h) c.args.len = c.div_ceil-end.ensures ∙ ap (div_ceil c.args.len) c.unit.ensures ∙ rounded_up (unit_of h) c.args.len (unit_some h c.requires.in_range) in
    (rw c.in-Some.is at c.in_ok-room.ensures.end) ∙ whole

pub returns-in-None-clause-not_container : goal.returns-in-None-clause-not_container
returns-in-None-clause-not_container c is lie once =
    let h = c.args.header.now in
    let whole : c.div_ceil-end.result ≡ blocks (unit_of h) c.args.len = c.div_ceil-end.ensures ∙ ap (div_ceil c.args.len) c.unit.ensures ∙ rounded_up (unit_of h) c.args.len (unit_some h c.requires.in_range) in
    let apart = all_apart (unit_of h) c.args.len c.args.things.items (unit_some h c.requires.in_range) lie once in
    let none : ¬ AreApart c.unit-2.result c.div_ceil-end.result c.args.things.items = c.around.ensures.none (c.in_ok-room.was ∙ ap (λ o. Ok o) c.in-None.is) in
    none (subst (λ n. AreApart c.unit-2.result n c.args.things.items) (sym whole) (subst (λ u. AreApart u (blocks (unit_of h) c.args.len) c.args.things.items) (sym c.unit-2.ensures) apart))
