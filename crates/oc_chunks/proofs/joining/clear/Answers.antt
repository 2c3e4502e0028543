use Rattle.std.proofs.Common.{◌∙◌, ◌<◌, ap, subst, sym, length, arith}
use Rattle.oc_chunks.specs.Merging.{Cleared}
use Rattle.oc_chunks.specs.Pieces.{IsSized}
use Rattle.oc_chunks.proofs.Eaches.{each_at}
use Rattle.oc_chunks.proofs.Merged.{cleared_more}
use Rattle.oc_chunks.proofs.joining.clear.Goals as goal

pub loop-at-preserved : goal.loop-at-preserved
loop-at-preserved g c =
    let cmp = g.E.Entry.order in
    let inv = c.loop-at.invariant in
    let init = c.args.pieces.now.items in
    let ps = c.loop-at.pieces.items in
    let at = c.loop-at.at in
    let q = c.index_mut.result.now in
    let so_far : Cleared cmp c.args.from at init ps = record { long = inv.long; front = inv.front; rest = inv.rest; bare = inv.bare; sized = inv.sized; marked = inv.marked } in
    let lt : at < length ps = omega (arith, inv.long, c.requires.within, c.loop-at-test.true) in
    let sized : IsSized q = subst IsSized (sym c.index_mut.ensures.value) (each_at IsSized at q ps lt inv.sized) in
    let s = cleared_more cmp c.args.from at init ps q c.stand_in.new.piece c.made-bare.result.part so_far (omega arith) lt c.index_mut.ensures.value c.stand_in.ensures (ap (λ m. m.part.items.items) c.made-bare.ensures ∙ c.new.ensures.items) (ap (λ m. m.part.len) c.made-bare.ensures ∙ ap length c.new.ensures.items) (ap (λ m. m.part.changed) c.made-bare.ensures) sized in
    record { long = s.long; front = s.front; rest = s.rest; bare = s.bare; sized = s.sized; marked = s.marked }
