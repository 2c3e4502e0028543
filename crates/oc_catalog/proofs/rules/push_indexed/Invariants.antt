use Rattle.std.proofs.Common.{◌≡◌, ◌++◌, drop, map, filter}
use Rattle.oc_model.specs.declared.schema.FieldDef.{FieldDef}
use Rattle.oc_catalog.proofs.rules.push_indexed.Given as goal

abbrev pub invariant-loop-field : goal.invariant-loop-field
invariant-loop-field l = l.ids.items ++ map (λ (f : FieldDef). f.id) (filter (λ (f : FieldDef). f.indexed) (drop l.field-index l.fields)) ≡ l.fn.ids.items ++ map (λ (f : FieldDef). f.id) (filter (λ (f : FieldDef). f.indexed) l.fields)
