use Rattle.std.proofs.Common.{◌≡◌, drop, is_some}
use Rattle.std.specs.List.{list_any}
use Rattle.oc_model.specs.Schemas.{field_named}
use Rattle.oc_model.specs.SchemaSteps.{names_of}
use Rattle.oc_refactor.proofs.names.are_inherited.Given as goal

abbrev pub invariant-loop-field : goal.invariant-loop-field
invariant-loop-field l =
    list_any (λ n. is_some (field_named l.schema l.class n)) (names_of (drop l.field-index l.declared)) ≡ list_any (λ n. is_some (field_named l.schema l.class n)) (names_of l.declared)
