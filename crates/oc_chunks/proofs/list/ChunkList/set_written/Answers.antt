use Rattle.std.proofs.Common.{◌≡◌, ◌∙◌, ap, sym, subst, flat_map, IsSome}
use Rattle.std.specs.Bool.{OnTrue}
use Rattle.oc_chunks.specs.Ascending.{Each}
use Rattle.oc_chunks.specs.Chunks.{joined}
use Rattle.oc_chunks.specs.Cutting.{IsWide}
use Rattle.oc_chunks.specs.Opening.{spare_of, written}
use Rattle.oc_chunks.specs.Pieces.{chunks_now}
use Rattle.oc_chunks.proofs.Settled.{settled_thens}
use Rattle.oc_chunks.proofs.Stored.{are_stored, spare_stored, written_stored}
use Rattle.oc_chunks.proofs.Wide.{joined_written}
use Rattle.oc_chunks.proofs.list.ChunkList.set_written.Goals as goal

pub invariant_of-self : goal.invariant_of-self
invariant_of-self g c =
    let bytes = g.E.Entry.bytes in
    let widest = c.self.inside.widest in
    let made = c.set_written-rest.ensures in
    let new = c.set_written-rest.new.pieces.items in
    let same : joined (flat_map chunks_now new) ≡ joined (flat_map chunks_now c.self.inside.pieces.items) = ap joined made.chunks ∙ joined_written c.args.numbers.now (flat_map chunks_now c.settle.new.pieces.items) ∙ ap joined c.settle.ensures.chunks in
    let now = subst (IsWide bytes widest) (sym same) c.self.invariant.now in
    record {
      sound = made.sound;
      now = now;
      marked = subst (λ l. IsWide bytes widest (joined l)) (sym made.marked) now;
      stored = are_stored c.args.numbers.now (flat_map chunks_now c.settle.new.pieces.items) new made.settled made.chunks c.are_numbered-self-inside.result (subst (λ l. OnTrue c.are_numbered-self-inside.result (Each (λ p. IsSome p.part.number) l)) c.as_slice.ensures.value c.are_numbered-self-inside.ensures.yes);
    }

pub returns-then-self-clause-chunks : goal.returns-then-self-clause-chunks
returns-then-self-clause-chunks g c =
    let stored = rw c.if-self.true at c.self.invariant.stored in
    ap (λ l. l.chunks) (sym c.self.view_is) ∙ sym (written_stored c.args.numbers.now (flat_map chunks_now c.self.inside.pieces.items) stored.chunks) ∙ ap (λ l. written c.args.numbers.now l.chunks) c.self.view_is

pub returns-then-self-clause-marked : goal.returns-then-self-clause-marked
returns-then-self-clause-marked g c =
    let stored = rw c.if-self.true at c.self.invariant.stored in
    ap (λ l. l.marked) (sym c.self.view_is) ∙ settled_thens g.E.Entry.order c.self.inside.pieces.items stored.settled ∙ ap (λ l. l.chunks) c.self.view_is

pub returns-then-self-clause-rest : goal.returns-then-self-clause-rest
returns-then-self-clause-rest g c =
    let stored = rw c.if-self.true at c.self.invariant.stored in
    sym (spare_stored c.args.numbers.now (flat_map chunks_now c.self.inside.pieces.items) stored.chunks) ∙ ap (λ l. spare_of c.args.numbers.now l.chunks) c.self.view_is
