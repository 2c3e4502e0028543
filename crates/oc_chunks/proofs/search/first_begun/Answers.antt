use Rattle.std.proofs.Common.{◌≡◌, ◌∙◌, sym, false, ◌≤◌, ◌<◌, ◌==◌, length, get_or, arith}
use Rattle.std.proofs.lemmas.Bool.Decides.{nat_tests}
use Rattle.std.specs.Vec.{vec_len}
use Rattle.oc_chunks.specs.Pieces.{begins, IsLater}
use Rattle.oc_chunks.proofs.Located.{each_from, later_from}
use Rattle.oc_chunks.proofs.search.first_begun.Goals as goal

pub returns-then-not-is_empty-clause-later : goal.returns-then-not-is_empty-clause-later
returns-then-not-is_empty-clause-later g c =
    let cmp = g.E.Entry.order in
    let side = g.C.Cut.side c.args.cut.now in
    let ps = c.args.pieces.now in
    let at = c.loop-at.at in
    let p = c.index-pieces-at.result in
    let p_is : p ≡ get_or ps at p = c.index-pieces-at.is in
    let lt : at < length ps = omega (arith, c.requires.within, c.loop-at-test.true) in
    let not_empty : (vec_len p.part.items == 0) ≡ false = sym c.is_empty.ensures ∙ c.if-not-is_empty.true in
    let some : 1 ≤ length p.part.items.items = grind (arith, nat_tests, not_empty, p.part.items.ok.0) in
    let off : begins side p ≡ false = sym c.begins_upto.ensures ∙ c.if-begins_upto.false in
    each_from (IsLater side) c.args.from at ps (omega arith) (omega arith) c.loop-at.invariant (later_from cmp side (g.met.C.Cut.parts c.args.cut.now) ps c.requires.ascending at p lt p_is some off)

pub returns-clause-later : goal.returns-clause-later
returns-clause-later g c =
    let P = IsLater (g.C.Cut.side c.args.cut.now) in
    each_from P c.args.from c.args.to c.args.pieces.now c.requires.order c.requires.within (λ k d l h. c.loop-at.invariant k d l (omega arith)) c.requires.later
