use Rattle.std.proofs.Common.{sym, subst, flat_map}
use Rattle.std.specs.Ordering.{is_eq}
use Rattle.oc_chunks.specs.Chunks.{joined}
use Rattle.oc_chunks.specs.Cutting.{IsWide}
use Rattle.oc_chunks.specs.Pieces.{chunks_now}
use Rattle.oc_chunks.proofs.Wide.{wide_left}
use Rattle.oc_chunks.proofs.list.ChunkList.remove.Goals as goal

pub invariant_of-self : goal.invariant_of-self
invariant_of-self g c =
    let bytes = g.E.Entry.bytes in
    let widest = c.self.inside.widest in
    record {
      sound = c.remove.ensures.sound;
      now = subst (λ l. IsWide bytes widest (joined l)) (sym c.remove.ensures.chunks) (wide_left bytes widest (λ e. is_eq (g.C.Cut.side c.args.cut.now e)) (flat_map chunks_now c.self.inside.pieces.items) c.self.invariant.now);
      marked = subst (λ l. IsWide bytes widest (joined l)) (sym c.remove.ensures.marked) c.self.invariant.marked;
      stored = tt;
    }
