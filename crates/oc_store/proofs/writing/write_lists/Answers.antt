use Rattle.std.proofs.Common.{◌≡◌, ◌∙◌, ap, sym, subst, map, None}
use Rattle.oc_chunks.specs.Ascending.{Each, IsAscending}
use Rattle.oc_chunks.specs.Chunks.{joined, Chunked, IsSizedChunk}
use Rattle.oc_chunks.specs.Opening.{spare_of}
use Rattle.oc_chunks.specs.Reading.{chunk_of}
use Rattle.oc_index.specs.declared.items.ExtentItem.{ExtentItem}
use Rattle.oc_index.specs.Items.{extent_cmp}
use Rattle.oc_segments.specs.Items.{extent_fits}
use Rattle.oc_segments.specs.Segments.{AreEntries}
use Rattle.oc_store.proofs.Writings.{chunk_entries, lists_changes}
use Rattle.oc_store.proofs.writing.write_lists.Goals as goal

pub write_list-requires : goal.write_list-requires
write_list-requires c =
    let es = c.args.lists.now.extents in
    let are : map chunk_of c.deref.result.now ≡ es.chunks = ap (map chunk_of) c.deref.ensures.value ∙ c.in_ok-extents.ensures.chunks ∙ ap (λ (e : Chunked ExtentItem). e.chunks) c.extents.ensures in
    subst (Each (λ k. AreEntries extent_cmp (extent_fits None) k.entries)) (sym are)
    (chunk_entries extent_cmp (extent_fits None) (extent_fits None) (λ x e. e) es.chunks (subst (λ (e : Chunked ExtentItem). Each IsSizedChunk e.chunks) c.extents.ensures c.in_ok-extents.ensures.sized) (subst (λ (e : Chunked ExtentItem). IsAscending extent_cmp (joined e.chunks)) c.extents.ensures c.in_ok-extents.ensures.ascending) c.requires.writable.extents)

pub returns-clause-changes : goal.returns-clause-changes
returns-clause-changes c =
    let l = c.args.lists.now in
    let vs = c.in_ok-extents.extents.items in
    let are : map chunk_of c.deref.result.now ≡ (l.extents).chunks = ap (map chunk_of) c.deref.ensures.value ∙ c.in_ok-extents.ensures.chunks ∙ ap (λ (e : Chunked ExtentItem). e.chunks) c.extents.ensures in
    let left : c.left_of-rest.result.now ≡ spare_of c.args.numbers.now (map chunk_of c.deref.result.now) = c.left_of-rest.ensures ∙ ap (λ v. spare_of c.args.numbers.now (map chunk_of v)) (c.deref-2.ensures.value ∙ sym c.deref.ensures.value) in
    lists_changes l c.args.numbers.now (map chunk_of c.deref.result.now) are c.left_of-rest.result.now left c.args.changes.now.items c.write_list.new.changes.items c.write_fields.new.changes.items c.in_ok-segments.ensures.changes c.in_ok-write_fields.ensures.changes
