use Rattle.std.proofs.Common.{◌∙◌, ◌++◌, ◌∷◌, [], ap, sym, subst, refl, arith}
use Rattle.std.proofs.lemmas.Bool.{OnTrue_at, OnFalse_at}
use Rattle.oc_chunks.specs.Between.{entries_in}
use Rattle.oc_chunks.specs.Opening.{Follows}
use Rattle.oc_chunks.proofs.Opened.{IsRead, read_step, read_stops}
use Rattle.oc_chunks.proofs.opening.pieces_of.Goals as goal

pub loop-at-preserved : goal.loop-at-preserved
loop-at-preserved g c =
    let inv = c.loop-at.invariant in
    let r : IsRead g.E.Entry.order c.args.chunks.items c.loop-at.chunks.items c.loop-at.pieces.items c.loop-at.at = record { long = inv.long; rest = inv.rest; settled = inv.settled; ascending = inv.ascending; chunks = inv.chunks } in
    let f = subst (λ l. Follows g.E.Entry.order (entries_in l) c.as_slice.result.now) c.deref.ensures.value (OnTrue_at c.if-not-follows.false c.follows.ensures.yes) in
    let f2 = subst (Follows g.E.Entry.order (entries_in c.loop-at.pieces.items)) c.as_slice.ensures.value f in
    let v = c.replace-entries.result in
    let s = read_step g.E.Entry.order c.args.chunks.items c.loop-at.chunks.items c.loop-at.pieces.items c.loop-at.at r (omega arith) c.index_mut-chunk.result.now (record { entries = c.replace-entries.new.dest; number = c.index_mut-chunk.result.now.number }) c.index_mut-chunk.ensures.value v c.index_mut-chunk.result.now.number (ap (λ u. u.items) c.replace-entries.ensures.value) refl f2 c.push.new.self.items (c.in_ok-push.ensures.items ∙ ap (λ p. c.loop-at.pieces.items ++ p ∷ []) c.piece_read.ensures) in
    record { long = s.long; rest = s.rest; settled = s.settled; ascending = s.ascending; chunks = s.chunks }

pub returns-then-not-follows-clause-none : goal.returns-then-not-follows-clause-none
returns-then-not-follows-clause-none g c =
    let inv = c.loop-at.invariant in
    let r : IsRead g.E.Entry.order c.args.chunks.items c.loop-at.chunks.items c.loop-at.pieces.items c.loop-at.at = record { long = inv.long; rest = inv.rest; settled = inv.settled; ascending = inv.ascending; chunks = inv.chunks } in
    let off = OnFalse_at c.if-not-follows.true c.follows.ensures.no in
    read_stops g.E.Entry.order c.args.chunks.items c.loop-at.chunks.items c.loop-at.pieces.items c.loop-at.at r (omega arith) c.index_mut-chunk.result.now c.index_mut-chunk.ensures.value c.as_slice.result.now (c.as_slice.ensures.value ∙ ap (λ u. u.items) c.replace-entries.ensures.value) (λ f. off (subst (λ l. Follows g.E.Entry.order (entries_in l) c.as_slice.result.now) (sym c.deref.ensures.value) f))
