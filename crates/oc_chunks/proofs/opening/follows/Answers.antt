use Rattle.std.proofs.Common.{◌≡◌, ◌≤◌, length, arith}
use Rattle.std.proofs.lemmas.Bool.Decides.{nat_tests}
use Rattle.std.proofs.lemmas.Bool.{OnTrue_from, OnTrue_at, OnFalse_from, OnFalse_at}
use Rattle.oc_chunks.specs.Between.{entries_in}
use Rattle.oc_chunks.proofs.Eaches.{pairs_rest}
use Rattle.oc_chunks.proofs.Opened.{below_first, follow}
use Rattle.oc_chunks.proofs.opening.follows.Goals as goal

pub returns-then-not-is_above-clause-no : goal.returns-then-not-is_above-clause-no
returns-then-not-is_above-clause-no g c f = OnFalse_at c.if-not-is_above.true c.is_above.ensures.no (below_first g.E.Entry.order (entries_in c.args.pieces.now) c.args.entries.now c.index-entries-0.result f.some c.index-entries-0.is f.ascending)

pub returns-clause-yes : goal.returns-clause-yes
returns-clause-yes g c =
    let some : 1 ≤ length c.args.entries.now = grind (arith, nat_tests, c.is_empty.ensures, c.if-is_empty.false) in
    let few : length c.args.entries.now ≤ 512 = omega arith in
    OnTrue_from c.ascends.result _ (λ it. record { some = some; few = few; ascending = follow g.E.Entry.order g.met.E.Entry.total (entries_in c.args.pieces.now) c.args.entries.now c.index-entries-0.result some c.index-entries-0.is c.requires.ascending (OnTrue_at it c.ascends.ensures.yes) (OnTrue_at c.if-not-is_above.false c.is_above.ensures.yes) })

pub returns-clause-no : goal.returns-clause-no
returns-clause-no g c = OnFalse_from c.ascends.result _ (λ off f. OnFalse_at off c.ascends.ensures.no (pairs_rest (λ u v. g.E.Entry.order u v ≡ _) (entries_in c.args.pieces.now) c.args.entries.now f.ascending))
