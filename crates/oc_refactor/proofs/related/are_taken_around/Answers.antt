use Rattle.std.proofs.Common.{◌∙◌, ap, List, find, is_some}
use denote.Ref.{Bor}
use Rattle.std.specs.List.{list_any}
use Rattle.oc_model.specs.declared.schema.ClassDef.{ClassDef}
use Rattle.oc_model.specs.Schemas.{current}
use Rattle.oc_model.specs.SchemaSteps.{is_called, names_of}
use Rattle.oc_refactor.proofs.Around.{around_any}
use Rattle.oc_refactor.proofs.related.are_taken_around.Goals as goal

pub returns : goal.returns
returns c =
    c.have_named-taken.ensures
    ∙ ap (λ (cs : List (Bor ClassDef)). list_any (λ n. list_any (λ d. is_some (find (is_called n) (current d.now.fields))) cs) (names_of c.args.declared.now)) c.as_slice.ensures.value
    ∙ around_any c.args.schema.now c.args.class (names_of c.args.declared.now) c.in_ok-around.around.items c.in_ok-around.ensures
