use Rattle.std.proofs.Common.{◌≡◌, sym, subst, take, true, false}
use Rattle.std.specs.Ordering.{is_eq}
use Rattle.oc_chunks.specs.Ascending.{Each}
use Rattle.oc_chunks.specs.Pieces.{Place, last_is, present}
use Rattle.oc_chunks.proofs.Gaps.{piece_at}
use Rattle.oc_chunks.proofs.Views.{entries_of}
use Rattle.oc_chunks.proofs.Leaving.{none_there, none_any, all_stay}
use Rattle.oc_chunks.proofs.removing.remove.Goals as goal

none : (g : _) → (c : goal.Then-not-is_there g) → Each (λ e. is_eq (g.C.Cut.side c.args.cut.now e) ≡ false) (entries_of c.args.pieces.now.items)
none g c =
    let ps = c.args.pieces.now.items in
    let side = g.C.Cut.side c.args.cut.now in
    let found = c.locate-found.result in
    let place = subst (λ l. Place side l found.piece found.at) c.deref.ensures.value c.locate-found.ensures in
    let p = piece_at ps place.before place.piece place.after found.piece c.index.result.now place.split place.index c.index.ensures in
    none_there g.E.Entry.order g.met.E.Entry.total side (g.met.C.Cut.parts c.args.cut.now) ps found.piece found.at place c.requires (subst (λ q. last_is side (take found.at (present q.part)) ≡ false) p (sym c.if-not-is_there.ensures))

pub returns-then-not-is_there-clause-there : goal.returns-then-not-is_there-clause-there
returns-then-not-is_there-clause-there g c = sym (none_any g.E.Entry.order g.met.E.Entry.total (g.C.Cut.side c.args.cut.now) (g.met.C.Cut.parts c.args.cut.now) c.args.pieces.now.items (none g c))

pub returns-then-not-is_there-clause-chunks : goal.returns-then-not-is_there-clause-chunks
returns-then-not-is_there-clause-chunks g c = sym (all_stay (λ e. is_eq (g.C.Cut.side c.args.cut.now e)) c.args.pieces.now.items (none g c))

pub leave_at-requires-clause-here : goal.leave_at-requires-clause-here
leave_at-requires-clause-here g c =
    let ps = c.args.pieces.now.items in
    let side = g.C.Cut.side c.args.cut.now in
    let found = c.locate-found.result in
    let place = subst (λ l. Place side l found.piece found.at) c.deref.ensures.value c.locate-found.ensures in
    let p = piece_at ps place.before place.piece place.after found.piece c.index.result.now place.split place.index c.index.ensures in
    record { place = place; last = subst (λ q. last_is side (take found.at (present q.part)) ≡ true) p (sym c.if-not-is_there.ensures) }
