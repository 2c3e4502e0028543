use Rattle.std.proofs.Common.{◌≡◌, ◌≤◌, subst}
use Rattle.oc_layout.specs.Headers.{SpellsHeader}
use Rattle.oc_layout.specs.Layout.{unit_of, room_of, blocks}
use Rattle.oc_slots.proofs.FirstBytes.{spelled_begins, begins_spelled}
use Rattle.oc_slots.proofs.front.header_of.Goals as goal

pub returns-in_default-clause-none : goal.returns-in_default-clause-none
returns-in_default-clause-none c b is h begins room = c.in_default.ensures.none h (begins_spelled h b c.args.bytes.now is c.fits-bytes begins)

pub returns-then-has_room-clause-begins : goal.returns-then-has_room-clause-begins
returns-then-has_room-clause-begins c b is = spelled_begins c.in-Some.header b (subst (SpellsHeader c.in-Some.header) is c.in-Some.ensures.spelled)

pub returns-else-has_room-clause-none : goal.returns-else-has_room-clause-none
returns-else-has_room-clause-none c b is h begins room =
    let same : h ≡ c.in-Some.header = c.in-Some.ensures.only h (begins_spelled h b c.args.bytes.now is c.fits-bytes begins) in
    c.has_room.ensures.no c.if-has_room.false (subst (λ x. blocks (unit_of x) c.args.len ≤ room_of x) same room)
