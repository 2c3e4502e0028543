use Rattle.std.proofs.Common.{◌≡◌, ◌++◌, drop}
use Rattle.std.specs.List.{flat_map}
use Rattle.oc_machine.specs.Printing.{escape}
use Rattle.oc_print.proofs.values.put_all_escaped.Given as goal

abbrev pub invariant-loop-byte : goal.invariant-loop-byte
invariant-loop-byte l = l.out.items ++ flat_map (escape) (drop l.byte-index l.text) ≡ l.fn.out.items ++ flat_map (escape) l.text
