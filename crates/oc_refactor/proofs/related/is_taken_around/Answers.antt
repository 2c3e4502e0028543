use Rattle.std.proofs.Common.{◌∙◌, ap, find, is_some}
use Rattle.std.specs.List.{list_any}
use Rattle.oc_model.specs.Schemas.{current}
use Rattle.oc_model.specs.SchemaSteps.{is_called}
use Rattle.oc_refactor.proofs.Around.{around_named}
use Rattle.oc_refactor.proofs.related.is_taken_around.Goals as goal

pub returns : goal.returns
returns c =
    c.has_named-taken.ensures
    ∙ ap (list_any (λ d. is_some (find (is_called c.args.name.now) (current d.now.fields)))) c.as_slice.ensures.value
    ∙ around_named c.args.schema.now c.args.class c.args.name.now c.in_ok-around.around.items c.in_ok-around.ensures
