use Rattle.std.proofs.Common.{◌∙◌, ap, sym, subst, flat_map}
use Rattle.std.specs.Bool.{OnTrue}
use Rattle.oc_chunks.specs.Chunks.{joined}
use Rattle.oc_chunks.specs.Cutting.{IsWide}
use Rattle.oc_chunks.specs.Joining.{NoneSmall}
use Rattle.oc_chunks.specs.Lists.{AreStored}
use Rattle.oc_chunks.specs.Pieces.{chunks_now}
use Rattle.oc_chunks.proofs.Joined.{joined_same, joins_self}
use Rattle.oc_chunks.proofs.Stored.{none_stored}
use Rattle.oc_chunks.proofs.list.ChunkList.join_small.Goals as goal

pub invariant_of-self : goal.invariant_of-self
invariant_of-self g c =
    let bytes = g.E.Entry.bytes in
    let widest = c.self.inside.widest in
    record {
      sound = c.join_small.ensures.sound;
      now = subst (IsWide bytes widest) (sym (joined_same bytes g.E.Entry.MOST (flat_map chunks_now c.self.inside.pieces.items) (flat_map chunks_now c.join_small.new.pieces.items) c.join_small.ensures.joins)) c.self.invariant.now;
      marked = subst (λ l. IsWide bytes widest (joined l)) (sym c.join_small.ensures.marked) c.self.invariant.marked;
      stored = subst (λ b. OnTrue b (AreStored c.join_small.new.pieces.items)) (sym c.if-self.false) tt;
    }

pub returns-clause-entries : goal.returns-clause-entries
returns-clause-entries g c = joined_same g.E.Entry.bytes g.E.Entry.MOST (flat_map chunks_now c.self.inside.pieces.items) (flat_map chunks_now c.join_small.new.pieces.items) c.join_small.ensures.joins ∙ ap (λ l. joined l.chunks) c.self.view_is

pub returns-then-self-clause-chunks : goal.returns-then-self-clause-chunks
returns-then-self-clause-chunks g c = joins_self g.E.Entry.bytes g.E.Entry.MOST c.args.self.now.chunks

pub returns-then-self-clause-none : goal.returns-then-self-clause-none
returns-then-self-clause-none g c =
    let stored = rw c.if-self.true at c.self.invariant.stored in
    subst (λ l. NoneSmall g.E.Entry.bytes g.E.Entry.MOST l.chunks) c.self.view_is (none_stored g.E.Entry.bytes g.E.Entry.MOST (flat_map chunks_now c.self.inside.pieces.items) stored.chunks)
