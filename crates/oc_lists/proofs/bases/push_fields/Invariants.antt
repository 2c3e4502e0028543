use Rattle.std.proofs.Common.{◌≡◌, ◌++◌, drop, map, filter}
use Rattle.oc_model.specs.declared.schema.FieldDef.{FieldDef}
use Rattle.oc_model.specs.Stores.{base_of}
use Rattle.oc_lists.proofs.bases.push_fields.Given as goal

abbrev pub invariant-loop-field : goal.invariant-loop-field
invariant-loop-field l = l.pairs.items ++ map (λ (f : FieldDef). (f.id, base_of f.kind)) (filter (λ (f : FieldDef). f.indexed) (drop l.field-index l.fields)) ≡ l.fn.pairs.items ++ map (λ (f : FieldDef). (f.id, base_of f.kind)) (filter (λ (f : FieldDef). f.indexed) l.fields)
