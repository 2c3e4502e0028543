use Rattle.std.proofs.Common.{◌≡◌, ◌∙◌, ◌∷◌, sym, ap, subst, arith}
use Rattle.std.specs.Int.{div_ceil}
use Rattle.oc_layout.specs.Layout.{unit_of, blocks}
use Rattle.oc_pages.specs.Pages.{things_of}
use Rattle.oc_room.specs.Rooms.{Tiles}
use Rattle.oc_room.proofs.Counting.{rounded_up}
use Rattle.oc_slots.specs.Forms.{header_cell}
use Rattle.oc_slots.proofs.Headers.{unit_some}
use Rattle.oc_slots.proofs.Made.{room_is, header_tiles}
use Rattle.oc_slots.proofs.making.empty_store.Goals as goal

pub new-room-requires-clause-end : goal.new-room-requires-clause-end
new-room-requires-clause-end c =
    let whole : c.div_ceil-end.result ≡ blocks (unit_of c.args.header) 128 = c.div_ceil-end.ensures ∙ ap (div_ceil 128) c.unit-unit.ensures ∙ rounded_up (unit_of c.args.header) 128 (unit_some c.args.header c.requires.in_range) in
    omega (arith, whole, c.room.ensures, room_is c.args.header c.requires.in_range)

pub store_with-requires-clause-end : goal.store_with-requires-clause-end
store_with-requires-clause-end c = c.new-room.ensures.end ∙ (c.div_ceil-end.ensures ∙ ap (div_ceil 128) c.unit-unit.ensures ∙ rounded_up (unit_of c.args.header) 128 (unit_some c.args.header c.requires.in_range))

pub store_with-requires-clause-tiles : goal.store_with-requires-clause-tiles
store_with-requires-clause-tiles c =
    let end = c.new-room.ensures.end ∙ (c.div_ceil-end.ensures ∙ ap (div_ceil 128) c.unit-unit.ensures ∙ rounded_up (unit_of c.args.header) 128 (unit_some c.args.header c.requires.in_range)) in
    subst (λ l. Tiles c.new-room.result (header_cell ∷ things_of l)) (sym c.new-pages.ensures.pages)
    (header_tiles c.new-room.result c.new-room.ensures.parts (end ∙ ap (λ u. blocks u 128) (sym (c.new-room.ensures.unit ∙ c.unit-unit.ensures))))
