use Rattle.std.proofs.Common.{◌≡◌, ◌+◌, ◌≤◌, length, filter, drop}
use Rattle.oc_model.specs.SchemaSteps.{is_new}
use Rattle.oc_refactor.proofs.stated.new_count.Given as goal

abbrev pub invariant-loop-field : goal.invariant-loop-field
invariant-loop-field l =
    record {
      counted : l.count + length (filter (is_new l.own) (drop l.field-index l.declared)) ≡ length (filter (is_new l.own) l.declared);
      room : l.count ≤ l.field-index;
    }
