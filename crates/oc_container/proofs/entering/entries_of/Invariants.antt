use Rattle.std.proofs.Common.{◌≡◌, List, [], drop, fold}
use Rattle.oc_model.specs.declared.value.Entry.{Entry}
use Rattle.oc_model.specs.declared.schema.FieldDef.{FieldDef}
use Rattle.oc_model.specs.Stores.{entered, entry_for, value_in}
use Rattle.oc_container.proofs.entering.entries_of.Given as goal

-- the entries with those of these fields
abbrev pub with_fields : List Entry → List Entry → List FieldDef → List Entry
with_fields values es fs = fold (λ (es : List Entry) (f : FieldDef). entered (entry_for f (value_in values f.id f.kind)) es) es fs

abbrev pub invariant-loop-field : goal.invariant-loop-field
invariant-loop-field l = with_fields l.values l.entries.items (drop l.field-index l.fields) ≡ with_fields l.values [] l.fields
