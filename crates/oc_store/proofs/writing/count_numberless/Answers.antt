use Rattle.std.proofs.Common.{◌≡◌, ◌∙◌, ◌+◌, ap, sym, refl, subst, map}
use Rattle.std.specs.Prelude.{IsSome}
use Rattle.oc_chunks.specs.Chunks.{Chunked}
use Rattle.oc_chunks.specs.Reading.{chunk_of}
use Rattle.oc_index.specs.declared.items.ExtentItem.{ExtentItem}
use Rattle.oc_index.specs.Fields.{FieldList}
use Rattle.oc_store.specs.Last.{numberless, numberless_in, numberless_of}
use Rattle.oc_store.proofs.Writings.{count_more, item_at, of_some}
use Rattle.oc_store.proofs.writing.count_numberless.Goals as goal

pub field_numberless-requires : goal.field_numberless-requires
field_numberless-requires c =
    let t = item_at c.deref-id-items.result.now c.args.lists.now.fields c.loop-id.id-index (c.deref-id-items.ensures.value ∙ c.in_ok-indexed.ensures.fields) c.requires c.loop-id-test.true in
    subst IsSome (sym t.found) refl

pub loop-id-preserved : goal.loop-id-preserved
loop-id-preserved c =
    let fs = c.args.lists.now.fields in
    let i = c.loop-id.id-index in
    let t = item_at c.deref-id-items.result.now fs i (c.deref-id-items.ensures.value ∙ c.in_ok-indexed.ensures.fields) c.requires c.loop-id-test.true in
    let f = t.field in
    let grown : c.in_ok-count.count ≡ c.loop-id.count + numberless (f.1).chunks = c.in_ok-count.ensures ∙ ap (λ k. c.loop-id.count + k) (of_some (λ (g : FieldList). c.in_ok-more.more ≡ numberless g.chunks) _ f.1 t.found c.in_ok-more.ensures) in
    count_more fs i t.within f t.is (f.1).chunks refl c.loop-id.count c.in_ok-count.count (numberless_of c.args.lists.now) grown c.loop-id.invariant

pub loop-id-init : goal.loop-id-init
loop-id-init c =
    ap (λ k. k + numberless_in c.args.lists.now.fields)
    (c.numberless-count.ensures ∙ ap numberless (ap (map chunk_of) c.deref.ensures.value ∙ c.in_ok-extents.ensures.chunks ∙ ap (λ (e : Chunked ExtentItem). e.chunks) c.extents.ensures))
