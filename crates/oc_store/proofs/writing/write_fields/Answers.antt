use Rattle.std.proofs.Common.{◌≡◌, ◌∙◌, ◌+◌, ◌++◌, ◌∷◌, [], ap, sym, refl, subst, List, Some, drop, get_or, map}
use Rattle.std.specs.Prelude.{IsSome}
use Rattle.oc_model.specs.declared.value.Base.TheVariants as base
use Rattle.oc_chunks.specs.Ascending.{Each, IsAscending}
use Rattle.oc_chunks.specs.Chunks.{joined, numbers, Chunk, IsSizedChunk}
use Rattle.oc_chunks.specs.Opening.{spare_of, written}
use Rattle.oc_chunks.specs.Reading.{chunk_of}
use Rattle.oc_index.specs.declared.items.IndexItem.{IndexItem}
use Rattle.oc_index.specs.Fields.{FieldList}
use Rattle.oc_index.specs.Indexed.{written_fields}
use Rattle.oc_index.specs.Items.{index_cmp}
use Rattle.oc_model.specs.Spelling.{segment_bytes}
use Rattle.oc_segments.specs.Items.{index_spelling}
use Rattle.oc_store.specs.Last.{field_segments, planned, segment_of}
use Rattle.oc_store.specs.Outlines.{named}
use Rattle.oc_store.proofs.Writings.{changes_for, entries_step, item_at, item_entries, lists_more, of_some, segments_step}
use Rattle.oc_store.proofs.writing.write_fields.Goals as goal

pub field_chunks-requires : goal.field_chunks-requires
field_chunks-requires c =
    let t = item_at c.deref-id-items.result.now c.args.lists.now.fields c.loop-id.id-index (c.deref-id-items.ensures.value ∙ c.in_ok-indexed.ensures.fields) c.requires.ids c.loop-id-test.true in
    subst IsSome (sym t.found) refl

pub write_field-requires : goal.write_field-requires
write_field-requires c =
    let fs = c.args.lists.now.fields in
    let q = get_or c.deref-id-items.result.now c.loop-id.id-index (0, base.Bool) in
    let t = item_at c.deref-id-items.result.now fs c.loop-id.id-index (c.deref-id-items.ensures.value ∙ c.in_ok-indexed.ensures.fields) c.requires.ids c.loop-id-test.true in
    let are : map chunk_of c.deref.result.now ≡ ((t.field).1).chunks = ap (map chunk_of) c.deref.ensures.value ∙ of_some (λ (f : FieldList). map chunk_of c.in_ok-chunks.chunks.items ≡ f.chunks) _ (t.field).1 t.found c.in_ok-chunks.ensures.chunks in
    item_entries fs c.loop-id.id-index q t (map chunk_of c.deref.result.now) are (record {
      sized = of_some (λ (f : FieldList). Each IsSizedChunk f.chunks) _ (t.field).1 t.found c.in_ok-chunks.ensures.sized;
      ascending = of_some (λ (f : FieldList). IsAscending index_cmp (joined f.chunks)) _ (t.field).1 t.found c.in_ok-chunks.ensures.ascending;
    }) c.requires.writable.fields

pub loop-id-preserved : goal.loop-id-preserved
loop-id-preserved c =
    let fs = c.args.lists.now.fields in
    let i = c.loop-id.id-index in
    let spare = c.loop-id.spare.now in
    let inv = c.loop-id.invariant in
    let q = get_or c.deref-id-items.result.now i (0, base.Bool) in
    let t = item_at c.deref-id-items.result.now fs i (c.deref-id-items.ensures.value ∙ c.in_ok-indexed.ensures.fields) c.requires.ids c.loop-id-test.true in
    let f = t.field in
    let cs : List (Chunk IndexItem) = map chunk_of c.in_ok-chunks.chunks.items in
    let are : cs ≡ (f.1).chunks = of_some (λ (g : FieldList). cs ≡ g.chunks) _ f.1 t.found c.in_ok-chunks.ensures.chunks in
    let first = ap (map chunk_of) c.deref.ensures.value in
    let grown : c.write_field.new.entries.items ≡ c.loop-id.entries.items ++ record { id = f.0; segments = numbers (written spare cs) } ∷ [] =
    c.in_ok-write_field.ensures.entries ∙ (λ j. c.loop-id.entries.items ++ record { id = t.id j; segments = numbers (written spare (first j)) } ∷ []) in
    let more : c.write_field.new.changes.items ≡ c.loop-id.changes.items ++ changes_for (planned spare (map (segment_of (segment_bytes (index_spelling (Some (f.1).base)))) cs)) =
    c.in_ok-write_field.ensures.changes ∙ (λ j. c.loop-id.changes.items ++ changes_for (planned spare (map (segment_of (segment_bytes (index_spelling (Some (t.base j))))) (first j)))) in
    let left : c.left_of-spare.result.now ≡ spare_of spare cs = c.left_of-spare.ensures ∙ ap (λ v. spare_of spare (map chunk_of v)) c.deref-in-loop-id.ensures.value in
    record {
      chunks = lists_more fs i f t.is t.within (record {
        sized = of_some (λ (g : FieldList). Each IsSizedChunk g.chunks) _ f.1 t.found c.in_ok-chunks.ensures.sized;
        ascending = of_some (λ (g : FieldList). IsAscending index_cmp (joined g.chunks)) _ f.1 t.found c.in_ok-chunks.ensures.ascending;
      }) inv.chunks;
      entries = ap (λ k. c.write_field.new.entries.items ++ map named (written_fields k (drop (i + 1) fs))) left
          ∙ entries_step fs i t.within f t.is cs are c.loop-id.entries.items c.write_field.new.entries.items spare [] (c.args.entries.now.items ++ map named (written_fields c.args.numbers.now fs)) grown inv.entries;
      changes = ap (λ k. c.write_field.new.changes.items ++ changes_for (planned k (field_segments (drop (i + 1) fs)))) left
          ∙ segments_step fs i t.within f t.is cs are c.loop-id.changes.items c.write_field.new.changes.items (c.args.changes.now.items ++ changes_for (planned c.args.numbers.now (field_segments fs))) spare more inv.changes;
    }
