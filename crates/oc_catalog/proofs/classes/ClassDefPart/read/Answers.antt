use Rattle.std.proofs.Common.{rules}
use Rattle.std.specs.Int.{w16}
use Rattle.oc_model.specs.Spelling.{counted, field_bytes, name_bytes}
use Rattle.oc_marshal.specs.Places.{NothingAt, StandsAt}
use Rattle.oc_catalog.specs.Drafts.{are_few, is_field, is_short_name}
use Rattle.oc_catalog.proofs.Drafts.{no_fields}
use Rattle.oc_catalog.proofs.classes.ClassDefPart.read.Goals as goal

pub returns-in_default-3-clause-none : goal.returns-in_default-3-clause-none
returns-in_default-3-clause-none c =
    let name : StandsAt is_short_name name_bytes c.args.bytes.now c.in-Some.from c.in-Some-2.name c.in-Some-2.mid = search rules in
    let none : NothingAt (are_few is_field) (counted w16 field_bytes) c.args.bytes.now c.in-Some-2.mid = search rules in
    no_fields c.args.bytes.now c.args.at c.in-Some.from c.in-Some-2.mid c.in-Some.parent c.in-Some-2.name c.in-Some.ensures.found name none
