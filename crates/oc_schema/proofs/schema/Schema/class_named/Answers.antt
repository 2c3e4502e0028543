-- The class of a name is there.
use Rattle.std.proofs.Common.{ap, ◌∙◌}
use Rattle.oc_model.specs.Schemas.{class_named}
use Rattle.oc_schema.proofs.Parting.{some_there}
use Rattle.oc_schema.proofs.schema.Schema.class_named.Goals as goal

pub returns-clause-there : goal.returns-clause-there
returns-clause-there c =
    let name = c.args.name.now in
    some_there c.args.self.now name c.copied.result (c.copied.ensures ∙ c.get.ensures ∙ c.self.invariant.table name ∙ ap (λ s. class_named s name) c.self.view_is)
