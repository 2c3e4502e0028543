use Rattle.std.proofs.Common.{◌≡◌, ◌++◌, drop}
use Rattle.std.specs.List.{flat_map}
use Rattle.oc_machine.specs.Printing.{object_line}
use Rattle.oc_print.proofs.lines.put_object_lines.Given as goal

abbrev pub invariant-loop-object : goal.invariant-loop-object
invariant-loop-object l = l.out.items ++ flat_map (object_line) (drop l.object-index l.objects) ≡ l.fn.out.items ++ flat_map (object_line) l.objects
