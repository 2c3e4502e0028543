use Rattle.std.proofs.Common.{◌≡◌, Some, rules}
use Rattle.oc_model.specs.Schemas.{class_at}
use Rattle.oc_catalog.specs.Drafts.{is_class}
use Rattle.oc_catalog.proofs.Numbered.{class_passes}
use Rattle.oc_catalog.proofs.writing.write_class.Goals as goal

pub write-requires : goal.write-requires
write-requires c =
    let there : class_at c.args.schema.now c.args.number ≡ Some c.in-Some.class.now = search rules in
    class_passes is_class c.args.schema.now c.args.number c.in-Some.class.now there c.requires.classes
