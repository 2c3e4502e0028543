use Rattle.std.proofs.Common.{◌∙◌, ap, ap₂, ◌++◌, filter, sym}
use Rattle.std.proofs.lemmas.List.Elements.{filter-append}
use Rattle.oc_chunks.specs.Between.{is_past, entries_in}
use Rattle.oc_chunks.specs.Pieces.{is_upto}
use Rattle.oc_chunks.proofs.Looking.{filter_both}
use Rattle.oc_chunks.proofs.between.span_between.Goals as goal

pub returns-clause-entries : goal.returns-clause-entries
returns-clause-entries g c =
    let low = is_past (g.C.Cut.side c.args.low.now) in
    let high = is_upto (g.C.Cut.side c.args.high.now) in
    let back = c.back_behind-back in
    ap₂ (λ k l. k ++ l) c.upto.ensures c.front_upto-front.ensures.entries
    ∙ sym (filter-append high back.result.first.now (entries_in back.result.pieces.now))
    ∙ ap (filter high) back.ensures.entries
    ∙ filter_both low high (entries_in c.args.pieces.now)
