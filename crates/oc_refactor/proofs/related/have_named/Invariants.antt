use Rattle.std.proofs.Common.{◌≡◌, drop, find, is_some}
use Rattle.std.specs.List.{list_any}
use Rattle.oc_model.specs.Schemas.{current}
use Rattle.oc_model.specs.SchemaSteps.{is_called, names_of}
use Rattle.oc_refactor.proofs.related.have_named.Given as goal

abbrev pub invariant-loop-field : goal.invariant-loop-field
invariant-loop-field l =
    list_any (λ n. list_any (λ c. is_some (find (is_called n) (current c.now.fields))) l.classes) (names_of (drop l.field-index l.declared))
    ≡ list_any (λ n. list_any (λ c. is_some (find (is_called n) (current c.now.fields))) l.classes) (names_of l.declared)
