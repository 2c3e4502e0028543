use Rattle.std.proofs.Common.{◌≡◌, ◌∙◌, ap, sym, subst, take, true}
use Rattle.oc_chunks.specs.Pieces.{present, last_is}
use Rattle.oc_chunks.specs.Places.{at_parts}
use Rattle.oc_chunks.proofs.Gaps.{there, gap, piece_at, place_ascends}
use Rattle.oc_chunks.proofs.adding.place_of.Goals as goal

pub returns-then-is_there-clause-there : goal.returns-then-is_there-clause-there
returns-then-is_there-clause-there g c =
    let found = c.locate-found.result in
    there g.E.Entry.order c.args.entry.now c.args.pieces.now found.piece found.at c.locate-found.ensures c.index-pieces-found.result c.index-pieces-found.is (ap (λ r. last_is (λ e. g.E.Entry.order e c.args.entry.now) (take found.at (present r.part))) c.index-pieces-found.is ∙ sym c.is_there.ensures ∙ c.if-is_there.true)

pub returns-else-is_there-clause-gap : goal.returns-else-is_there-clause-gap
returns-else-is_there-clause-gap g c =
    let cmp = g.E.Entry.order in
    let x = c.args.entry.now in
    let parts = at_parts cmp g.met.E.Entry.total x in
    let found = c.locate-found.result in
    gap cmp x c.args.pieces.now found.piece found.at c.locate-found.ensures parts (place_ascends cmp (λ e. cmp e x) parts c.args.pieces.now found.piece found.at c.locate-found.ensures c.requires.sound) c.index-pieces-found.result c.index-pieces-found.is (ap (λ r. last_is (λ e. cmp e x) (take found.at (present r.part))) c.index-pieces-found.is ∙ sym c.is_there.ensures ∙ c.if-is_there.false)

pub returns-then-is_there-clause-here : goal.returns-then-is_there-clause-here
returns-then-is_there-clause-here g c =
    let cmp = g.E.Entry.order in
    let x = c.args.entry.now in
    let found = c.locate-found in
    let on = ap (λ r. last_is (λ e. cmp e x) (take found.result.at (present r.part))) c.index-pieces-found.is ∙ sym c.is_there.ensures ∙ c.if-is_there.true in
    let same = piece_at c.args.pieces.now found.ensures.before found.ensures.piece found.ensures.after found.result.piece c.index-pieces-found.result found.ensures.split found.ensures.index c.index-pieces-found.is in
    record { place = found.ensures; last = subst (λ q. last_is (λ e. cmp e x) (take found.result.at (present q.part)) ≡ true) same on }
