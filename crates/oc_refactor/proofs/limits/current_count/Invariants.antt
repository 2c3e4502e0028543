use Rattle.std.proofs.Common.{◌≡◌, ◌≤◌, ◌+◌, length, drop}
use Rattle.oc_model.specs.Schemas.{current}
use Rattle.oc_refactor.proofs.limits.current_count.Given as goal

abbrev pub invariant-loop-field : goal.invariant-loop-field
invariant-loop-field l =
    record {
      counted : l.count + length (current (drop l.field-index l.fields)) ≡ length (current l.fields);
      room : l.count ≤ l.field-index;
    }
