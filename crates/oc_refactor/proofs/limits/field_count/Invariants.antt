use Rattle.std.proofs.Common.{◌≡◌, ◌≤◌, ◌+◌, length}
use Rattle.oc_model.specs.Schemas.{fields_of}
use Rattle.oc_refactor.proofs.limits.field_count.Given as goal

abbrev pub invariant-loop-at : goal.invariant-loop-at
invariant-loop-at l =
    record {
      counted : l.count + length (fields_of l.schema l.at) ≡ length (fields_of l.schema l.class);
      there : l.at ≤ length l.schema.classes;
    }

abbrev pub decreases-loop-at : goal.decreases-loop-at
decreases-loop-at l = l.at
