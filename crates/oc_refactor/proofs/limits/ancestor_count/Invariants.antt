use Rattle.std.proofs.Common.{◌≡◌, ◌≤◌, ◌+◌, length}
use Rattle.oc_model.specs.SchemaRules.{ancestors}
use Rattle.oc_schema.proofs.Ancestry.{lineage}
use Rattle.oc_refactor.proofs.limits.ancestor_count.Given as goal

abbrev pub invariant-loop-above : goal.invariant-loop-above
invariant-loop-above l =
    record {
      counted : l.count + lineage l.schema l.above ≡ length (ancestors l.schema l.class);
      room : l.count + l.above ≤ l.class;
      there : l.above ≤ length l.schema.classes;
    }

abbrev pub decreases-loop-above : goal.decreases-loop-above
decreases-loop-above l = l.above
