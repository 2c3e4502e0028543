use Rattle.std.proofs.Common.{◌≡◌, ◌∙◌, ap, sym, subst, take, false}
use Rattle.oc_chunks.specs.Between.{is_at}
use Rattle.oc_chunks.specs.Pieces.{present, last_is}
use Rattle.oc_chunks.proofs.Gaps.{piece_at}
use Rattle.oc_chunks.proofs.Leaving.{none_there}
use Rattle.oc_chunks.proofs.Looking.{find_none, found_is}
use Rattle.oc_chunks.proofs.between.find.Goals as goal

pub returns-then-not-is_there : goal.returns-then-not-is_there
returns-then-not-is_there g c =
    let side = g.C.Cut.side c.args.cut.now in
    let ps = c.args.pieces.now in
    let found = c.locate-found in
    let off = ap (λ r. last_is side (take found.result.at (present r.part))) c.index-pieces-found.is ∙ sym c.is_there.ensures ∙ c.if-not-is_there.true in
    let same = piece_at ps found.ensures.before found.ensures.piece found.ensures.after found.result.piece c.index-pieces-found.result found.ensures.split found.ensures.index c.index-pieces-found.is in
    sym (find_none (is_at side) _ (none_there g.E.Entry.order g.met.E.Entry.total side (g.met.C.Cut.parts c.args.cut.now) ps found.result.piece found.result.at found.ensures c.requires (subst (λ q. last_is side (take found.result.at (present q.part)) ≡ false) same off)))

pub returns : goal.returns
returns g c =
    let side = g.C.Cut.side c.args.cut.now in
    let ps = c.args.pieces.now in
    let found = c.locate-found in
    let on = ap (λ r. last_is side (take found.result.at (present r.part))) c.index-pieces-found.is ∙ sym c.is_there.ensures ∙ c.if-not-is_there.false in
    found_is side ps found.result.piece found.result.at found.ensures g.E.Entry.order g.met.E.Entry.total (g.met.C.Cut.parts c.args.cut.now) c.requires c.index-pieces-found.result c.index-pieces-found.is c.entries.result.now (c.entries.ensures ∙ ap (λ q. present q.part) (sym c.index-pieces-found.is)) c.index-entries-found.result c.index-entries-found.is on
