use Rattle.std.proofs.Common.{◌≡◌, ◌++◌, drop, flat_map}
use Rattle.oc_model.specs.declared.schema.FieldDef.{FieldDef}
use Rattle.oc_model.specs.References.{refs_in}
use Rattle.oc_model.specs.Stores.{value_in}
use Rattle.oc_graph.proofs.naming.named_by.Given as goal

abbrev pub invariant-loop-field : goal.invariant-loop-field
invariant-loop-field l =
    l.named.items ++ flat_map (λ (f : FieldDef). refs_in (value_in l.entries f.id f.kind)) (drop l.field-index l.fields)
    ≡ flat_map (λ (f : FieldDef). refs_in (value_in l.entries f.id f.kind)) l.fields
