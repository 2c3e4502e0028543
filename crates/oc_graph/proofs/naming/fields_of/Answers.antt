use Rattle.std.proofs.Common.{◌≡◌, ◌∙◌, None, not, refl, ap}
use Rattle.std.specs.Option.{option_copied}
use Rattle.oc_model.specs.Schemas.{class_at}
use Rattle.oc_lists.proofs.ClassFields.{none_of}
use Rattle.oc_graph.proofs.Fields.{nothing_there}
use Rattle.oc_graph.proofs.naming.fields_of.Goals as goal

pub returns-then-is_none : goal.returns-then-is_none
returns-then-is_none c =
    let gone : class_at c.args.schema.now c.args.class ≡ None = nothing_there _ option_copied _ refl c.class.ensures (c.is_none.ensures ∙ ap not c.if-is_none.true) in
    c.new.ensures.items ∙ none_of c.args.schema.now c.args.class c.keeps_rules.ensures gone
