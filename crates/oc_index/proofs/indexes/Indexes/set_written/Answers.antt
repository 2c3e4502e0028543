use Rattle.std.proofs.Common.{◌∙◌, ap, ap₂, map, flat_map}
use Rattle.oc_chunks.specs.Opening.{spare_of}
use Rattle.oc_index.specs.Indexed.{marked_now, now_of, written_fields}
use Rattle.oc_index.proofs.Committed.{marked_written}
use Rattle.oc_index.proofs.indexes.Indexes.set_written.Goals as goal

pub returns-clause-fields : goal.returns-clause-fields
returns-clause-fields c =
    c.mark_fields.ensures.fields
    ∙ ap (map (λ f. (f.0, marked_now f.1))) c.write_in.ensures.fields
    ∙ marked_written c.set_written-rest.result.now (flat_map now_of c.self.inside.fields.items)
    ∙ ap₂ written_fields (c.set_written-rest.ensures.rest ∙ ap (λ l. spare_of c.args.numbers.now l.extents.chunks) c.self.view_is) (ap (λ l. l.fields) c.self.view_is)
