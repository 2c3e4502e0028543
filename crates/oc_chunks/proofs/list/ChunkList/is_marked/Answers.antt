use Rattle.std.proofs.Common.{◌≡◌, ◌∙◌, ap, sym, subst, Bool, true, false}
use Rattle.std.specs.Bool.{OnTrue}
use Rattle.oc_chunks.specs.Ascending.{Each}
use Rattle.oc_chunks.specs.Lists.{AreStored}
use Rattle.oc_chunks.specs.Settling.{IsSettled}
use Rattle.oc_chunks.proofs.Settled.{settled_thens}
use Rattle.oc_chunks.proofs.list.ChunkList.is_marked.Goals as goal

on_more : (b : Bool) (P Q : Type 0) → (P → Q) → OnTrue b P → OnTrue b Q
on_more true P Q f p = f p
on_more false P Q f p = tt

pub returns-then-self : goal.returns-then-self
returns-then-self g c =
    on_more c.self.inside.is_stored (AreStored c.self.inside.pieces.items) (c.args.self.now.marked ≡ c.args.self.now.chunks)
    (λ stored. ap (λ l. l.marked) (sym c.self.view_is) ∙ settled_thens g.E.Entry.order c.self.inside.pieces.items stored.settled ∙ ap (λ l. l.chunks) c.self.view_is)
    c.self.invariant.stored

pub returns-else-self : goal.returns-else-self
returns-else-self g c =
    on_more c.are_settled.result (Each IsSettled c.as_slice.result.now) (c.args.self.now.marked ≡ c.args.self.now.chunks)
    (λ settled. ap (λ l. l.marked) (sym c.self.view_is) ∙ settled_thens g.E.Entry.order c.self.inside.pieces.items (subst (Each IsSettled) c.as_slice.ensures.value settled) ∙ ap (λ l. l.chunks) c.self.view_is)
    c.are_settled.ensures
