use Rattle.std.proofs.Common.{codes}
use Rattle.oc_machine.specs.Printing.{field_text}
use Rattle.oc_print.proofs.Joined.{first_and_others}
use Rattle.oc_print.proofs.lines.put_fields.Goals as goal

pub returns : goal.returns
returns c = first_and_others (codes ",") field_text _ _ _ _ _ _ c.in-Some.ensures.cases.0 c.in_ok-put_field.ensures c.in_ok-put_other_fields.ensures
