use Rattle.std.proofs.Common.{◌∙◌, map, subst, sym}
use Rattle.oc_chunks.specs.Ascending.{Each}
use Rattle.oc_chunks.specs.Chunks.{joined}
use Rattle.oc_chunks.specs.Cutting.{IsWide}
use Rattle.oc_chunks.specs.Lists.{IsStored}
use Rattle.oc_chunks.specs.Opening.{chunk_read}
use Rattle.oc_chunks.proofs.Opened.{settled_all_sound}
use Rattle.oc_chunks.proofs.Settled.{settled_thens}
use Rattle.oc_chunks.proofs.Stored.{read_stored}
use Rattle.oc_chunks.proofs.list.ChunkList.of.Goals as goal

pub invariant_of-result : goal.invariant_of-result
invariant_of-result g c =
    let is = rw c.in-Some.is at c.in_ok-pieces.ensures.found in
    let cmp = g.E.Entry.order in
    let ps = c.in-Some.pieces.items in
    let wide = subst (λ l. IsWide g.E.Entry.bytes c.widest_of-widest.result (joined (map chunk_read l))) c.deref.ensures.value c.widest_of-widest.ensures in
    let now = subst (λ l. IsWide g.E.Entry.bytes c.widest_of-widest.result (joined l)) (sym is.chunks) wide in
    record {
      sound = settled_all_sound cmp ps is.settled is.ascending;
      now = now;
      marked = subst (λ l. IsWide g.E.Entry.bytes c.widest_of-widest.result (joined l)) (sym (settled_thens cmp ps is.settled)) now;
      stored = record { settled = is.settled; chunks = subst (Each IsStored) (sym is.chunks) (read_stored _) };
    }

pub returns-in-Some-clause-marked : goal.returns-in-Some-clause-marked
returns-in-Some-clause-marked g c =
    let is = rw c.in-Some.is at c.in_ok-pieces.ensures.found in
    settled_thens g.E.Entry.order c.in-Some.pieces.items is.settled ∙ is.chunks
