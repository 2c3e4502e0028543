use Rattle.std.proofs.Common.{◌≡◌, ◌∙◌, ap, sym, subst, suc, ◌-◌, ◌<◌, length, take, get_or, arith}
use Rattle.std.specs.Ordering.{is_eq}
use Rattle.std.proofs.lemmas.List.{length-take-le}
use Rattle.oc_chunks.specs.Pieces.{present, last_is}
use Rattle.oc_chunks.proofs.Gaps.{last_is_at}
use Rattle.oc_chunks.proofs.search.is_there.Goals as goal

pub returns : goal.returns
returns g c =
    let part = c.args.part.now in
    let at = c.args.at in
    let es = present part in
    let side = g.C.Cut.side c.args.cut.now in
    let read = subst (λ l. c.index-entries-at.result ≡ get_or l (at - 1) c.index-entries-at.result) c.entries.ensures c.index-entries-at.is in
    let long = length-take-le part.len part.items.items c.requires.within in
    let lt : at - 1 < length es = omega (arith, c.requires.there, c.if-at-eq0.false) in
    c.is_eq.ensures ∙ ap is_eq c.side.ensures ∙ sym (last_is_at side es (at - 1) c.index-entries-at.result lt read) ∙ ap (λ n. last_is side (take n es)) {x = suc (at - 1)} {y = at} (omega (arith, c.if-at-eq0.false))
