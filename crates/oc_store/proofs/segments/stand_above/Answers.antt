use Rattle.std.proofs.Common.{◌∙◌, ap, sym, map}
use Rattle.std.specs.Ordering.{is_lt}
use Rattle.std.proofs.lemmas.Bool.{OnTrue_from, OnFalse_from, false≢true}
use Rattle.oc_chunks.specs.Chunks.{joined}
use Rattle.oc_chunks.specs.Opening.{chunk_read}
use Rattle.oc_chunks.proofs.Opened.{less_is}
use Rattle.oc_store.proofs.Ends.{last_is_below, stands_above}
use Rattle.oc_store.proofs.segments.stand_above.Goals as goal

pub returns-in-Some-clause-yes : goal.returns-in-Some-clause-yes
returns-in-Some-clause-yes g c =
    let end = c.in-Some.ensures.last in
    OnTrue_from c.before-in-Some.result _ (λ it.
    stands_above g.E.Entry.order g.met.E.Entry.total (joined (map chunk_read c.args.chunks.now)) end.0 c.args.entries.now c.in-Some.last.now c.index-entries-0.result end.1 c.requires.some c.index-entries-0.is c.requires.list.ascending c.requires.ascending
    (less_is _ (sym c.before-in-Some.ensures ∙ it)))

pub returns-in-Some-clause-no : goal.returns-in-Some-clause-no
returns-in-Some-clause-no g c =
    let end = c.in-Some.ensures.last in
    OnFalse_from c.before-in-Some.result _ (λ off a.
    false≢true (sym off ∙ c.before-in-Some.ensures ∙ ap is_lt
    (last_is_below g.E.Entry.order g.met.E.Entry.total (joined (map chunk_read c.args.chunks.now)) end.0 c.args.entries.now c.in-Some.last.now c.index-entries-0.result end.1 c.requires.some c.index-entries-0.is a)))
