use Rattle.std.proofs.Common.{◌∙◌, subst, sym, arith}
use Rattle.oc_chunks.specs.Merging.{IsAlone, Neighbours}
use Rattle.oc_chunks.proofs.Merged.{merges_back, none_alone, none_back, none_before, small_at, apart_at}
use Rattle.oc_chunks.proofs.joining.+join_back.Goals as goal

pub returns-in_default-clause-none : goal.returns-in_default-clause-none
returns-in_default-clause-none g t c =
    let alone = rw c.in_default.is at c.neighbour.ensures.none in
    none_alone g.E.Entry.order g.E.Entry.bytes g.E.Entry.MOST c.args.at c.args.pieces.now.items c.requires.sound (subst (λ l. IsAlone l c.args.at) c.deref.ensures.value alone) c.requires.within c.requires.none

pub returns-then-not-are_small-clause-none : goal.returns-then-not-are_small-clause-none
returns-then-not-are_small-clause-none g t c =
    let pair = subst (λ l. Neighbours l c.in-Some.first c.args.at) c.deref.ensures.value c.in-Some.ensures.found in
    apart_at g.E.Entry.order g.E.Entry.bytes g.E.Entry.MOST c.in-Some.first c.args.at c.args.pieces.now.items c.requires.sound pair c.index.result.now c.index-2.result.now c.index.ensures c.index-2.ensures (sym c.are_small.ensures ∙ c.if-not-are_small.true) c.requires.none

pub join_two-requires-clause-small : goal.join_two-requires-clause-small
join_two-requires-clause-small g t c =
    let pair = subst (λ l. Neighbours l c.in-Some.first c.args.at) c.deref.ensures.value c.in-Some.ensures.found in
    small_at g.E.Entry.order g.E.Entry.bytes g.E.Entry.MOST c.in-Some.first c.args.at c.args.pieces.now.items pair c.index.result.now c.index-2.result.now c.index.ensures c.index-2.ensures (sym c.are_small.ensures ∙ c.if-not-are_small.false)

pub join_back-requires : goal.join_back-requires
join_back-requires g t c κs within =
    let pair = subst (λ l. Neighbours l c.in-Some.first c.args.at) c.deref.ensures.value c.in-Some.ensures.found in
    let two = c.in_ok-join_two.ensures.ok in
    (omega (arith, pair.next, c.decreases), (within, (two.merges.sound, (omega (arith, pair.next, two.merges.long, c.requires.within), none_before g.E.Entry.order g.E.Entry.bytes g.E.Entry.MOST c.in-Some.first c.args.at c.args.pieces.now.items c.join_two.new.pieces.items (omega (arith, pair.next)) two c.requires.none))))

pub returns-in_err-join_back-clause-merges : goal.returns-in_err-join_back-clause-merges
returns-in_err-join_back-clause-merges g t c =
    let pair = subst (λ l. Neighbours l c.in-Some.first c.args.at) c.deref.ensures.value c.in-Some.ensures.found in
    merges_back g.E.Entry.order g.E.Entry.bytes g.E.Entry.MOST c.in-Some.first c.args.at c.args.pieces.now.items c.join_two.new.pieces.items c.join_back.new.pieces.items (omega (arith, pair.next)) c.in_ok-join_two.ensures.ok c.join_back.ensures.merges

pub returns-clause-merges : goal.returns-clause-merges
returns-clause-merges g t c =
    let pair = subst (λ l. Neighbours l c.in-Some.first c.args.at) c.deref.ensures.value c.in-Some.ensures.found in
    merges_back g.E.Entry.order g.E.Entry.bytes g.E.Entry.MOST c.in-Some.first c.args.at c.args.pieces.now.items c.join_two.new.pieces.items c.join_back.new.pieces.items (omega (arith, pair.next)) c.in_ok-join_two.ensures.ok c.join_back.ensures.merges

pub returns-clause-none : goal.returns-clause-none
returns-clause-none g t c =
    let pair = subst (λ l. Neighbours l c.in-Some.first c.args.at) c.deref.ensures.value c.in-Some.ensures.found in
    none_back g.E.Entry.order g.E.Entry.bytes g.E.Entry.MOST c.in-Some.first c.args.at c.args.pieces.now.items c.join_two.new.pieces.items c.join_back.new.pieces.items (omega (arith, pair.next)) c.requires.within c.in_ok-join_two.ensures.ok c.join_back.ensures.merges c.in_ok-join_back.ensures.none
