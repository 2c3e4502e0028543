use Rattle.std.proofs.Common.{◌≤◌, sym, subst, flat_map, arith}
use Rattle.oc_chunks.specs.Chunks.{joined}
use Rattle.oc_chunks.specs.Cutting.{IsWide}
use Rattle.oc_chunks.specs.Pieces.{chunks_now, chunks_then}
use Rattle.oc_chunks.proofs.Wide.{wider, wide_replaced}
use Rattle.oc_chunks.proofs.list.ChunkList.put.Goals as goal

pub invariant_of-self-2 : goal.invariant_of-self-2
invariant_of-self-2 g c =
    let cmp = g.E.Entry.order in
    let bytes = g.E.Entry.bytes in
    let widest = c.max-widest.result in
    let old = c.self.inside.pieces.items in
    let made = c.in_ok-put.ensures.ok in
    let more : c.self.inside.widest ≤ widest = omega (arith, c.max-widest.ensures) in
    let it : bytes c.args.entry ≤ widest = omega (arith, c.max-widest.ensures, c.len.ensures) in
    record {
      sound = c.put.ensures.sound;
      now = subst (IsWide bytes widest) (sym made.entries) (wide_replaced bytes widest cmp c.args.entry (joined (flat_map chunks_now old)) it (wider bytes c.self.inside.widest widest (joined (flat_map chunks_now old)) more c.self.invariant.now));
      marked = subst (λ l. IsWide bytes widest (joined l)) (sym made.marked) (wider bytes c.self.inside.widest widest (joined (flat_map (chunks_then cmp) old)) more c.self.invariant.marked);
      stored = tt;
    }
