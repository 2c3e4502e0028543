use Rattle.std.proofs.Common.{◌≡◌, drop, find, is_some}
use Rattle.std.specs.List.{list_any}
use Rattle.oc_model.specs.Schemas.{current}
use Rattle.oc_model.specs.SchemaSteps.{is_called}
use Rattle.oc_refactor.proofs.related.has_named.Given as goal

abbrev pub invariant-loop-class : goal.invariant-loop-class
invariant-loop-class l =
    list_any (λ c. is_some (find (is_called l.name) (current c.now.fields))) (drop l.class-index l.classes) ≡ list_any (λ c. is_some (find (is_called l.name) (current c.now.fields))) l.classes
