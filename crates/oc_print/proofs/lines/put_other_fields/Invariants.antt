use Rattle.std.proofs.Common.{◌≡◌, ◌++◌, drop, codes}
use Rattle.std.specs.List.{flat_map}
use Rattle.oc_machine.specs.Printing.{field_text}
use Rattle.oc_print.proofs.lines.put_other_fields.Given as goal

abbrev pub invariant-loop-field : goal.invariant-loop-field
invariant-loop-field l = l.out.items ++ flat_map (λ field. codes "," ++ field_text field) (drop l.field-index l.fields) ≡ l.fn.out.items ++ flat_map (λ field. codes "," ++ field_text field) l.fields
