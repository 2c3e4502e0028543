use Rattle.std.proofs.Common.{◌∙◌, ◌-◌, ap, sym, refl, get_or, arith}
use Rattle.std.specs.Vec.{vec_len}
use Rattle.std.specs.Ordering.{is_lt}
use Rattle.std.proofs.lemmas.Bool.Decides.{nat_tests}
use Rattle.std.proofs.lemmas.Bool.{OnTrue_from, OnFalse_from, false≢true}
use Rattle.oc_chunks.proofs.Opened.{all_below, last_below, less_is}
use Rattle.oc_chunks.proofs.opening.is_above.Goals as goal

pub returns-clause-yes : goal.returns-clause-yes
returns-clause-yes g c =
    let ps = c.args.pieces.now in
    let q = c.index-pieces-pieces.result in
    let d = c.index.result.now in
    let read = sym c.index-pieces-pieces.is in
    let d_is = c.index.ensures ∙ ap (λ p. get_or p.part.items.items (c.len.result - 1) d) read ∙ ap (λ n. get_or q.part.items.items (n - 1) d) (c.len.ensures ∙ ap (λ p. vec_len p.part.items) read ∙ q.part.items.ok.0) in
    OnTrue_from c.is_lt.result _ (λ it. all_below g.E.Entry.order g.met.E.Entry.total ps c.requires.settled (grind (arith, nat_tests, c.is_empty.ensures, c.if-is_empty.false)) q c.index-pieces-pieces.is q.part.items.items refl d d_is c.args.entry.now c.requires.ascending (less_is _ (ap is_lt (sym c.compare.ensures) ∙ sym c.is_lt.ensures ∙ it)))

pub returns-clause-no : goal.returns-clause-no
returns-clause-no g c =
    let ps = c.args.pieces.now in
    let q = c.index-pieces-pieces.result in
    let d = c.index.result.now in
    let read = sym c.index-pieces-pieces.is in
    let d_is = c.index.ensures ∙ ap (λ p. get_or p.part.items.items (c.len.result - 1) d) read ∙ ap (λ n. get_or q.part.items.items (n - 1) d) (c.len.ensures ∙ ap (λ p. vec_len p.part.items) read ∙ q.part.items.ok.0) in
    OnFalse_from c.is_lt.result _ (λ off a. false≢true (sym off ∙ c.is_lt.ensures ∙ ap is_lt c.compare.ensures ∙ ap is_lt (last_below g.E.Entry.order g.met.E.Entry.total ps c.requires.settled (grind (arith, nat_tests, c.is_empty.ensures, c.if-is_empty.false)) q c.index-pieces-pieces.is q.part.items.items refl d d_is c.args.entry.now a)))
