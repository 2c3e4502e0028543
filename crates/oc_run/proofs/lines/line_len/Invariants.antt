use Rattle.std.proofs.Common.{◌≡◌, true, take}
use Rattle.oc_run.specs.Rest.{is_in_one_line}
use Rattle.oc_run.proofs.lines.line_len.Given as goal

abbrev pub invariant-loop-at : goal.invariant-loop-at
invariant-loop-at l = is_in_one_line (take l.at l.bytes) ≡ true
