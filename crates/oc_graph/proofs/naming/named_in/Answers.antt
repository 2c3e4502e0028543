use Rattle.std.proofs.Common.{◌∙◌, ap}
use Rattle.std.specs.Prelude.{flat_map}
use Rattle.oc_model.specs.declared.schema.FieldDef.{FieldDef}
use Rattle.oc_model.specs.References.{refs_in}
use Rattle.oc_model.specs.Stores.{value_in}
use Rattle.std.proofs.lemmas.Result.{IfOk-weaker}
use Rattle.oc_graph.proofs.Fields.{names_are}
use Rattle.oc_graph.proofs.naming.named_in.Goals as goal

pub returns : goal.returns
returns c =
    IfOk-weaker c.named_by.result _ _ (λ v is. is ∙ ap (flat_map (λ (f : FieldDef). refs_in (value_in c.args.entries.now f.id f.kind))) (c.deref.ensures.value ∙ c.in_ok-fields.ensures) ∙ names_are c.args.schema.now c.args.class c.args.entries.now) c.named_by.ensures
