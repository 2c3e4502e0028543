use Rattle.std.proofs.Common.{◌∙◌, sym, ap, List, map}
use Rattle.std.proofs.lemmas.List.{drop_all}
use Rattle.oc_model.specs.declared.schema.FieldDef.{FieldDef}
use Rattle.oc_model.specs.SchemaSteps.{made_past, unstated_fields}
use Rattle.oc_refactor.specs.ById.{keyed}
use Rattle.oc_refactor.proofs.Ascending.{put_all}
use Rattle.oc_refactor.proofs.Placing.{keyed_by_id}
use Rattle.oc_refactor.proofs.past.unstated.Goals as goal

pub returns : goal.returns
returns c =
    let own = c.args.own.now in
    let stated = c.args.stated.now in
    let past = c.loop-field.past.items in
    let none = drop_all c.loop-field.field-index own c.loop-field-test.false in
    keyed_by_id past (map made_past (unstated_fields own stated))
    (sym (ap (λ (fs : List FieldDef). put_all (keyed past) (map made_past (unstated_fields fs stated))) none) ∙ c.loop-field.invariant)
