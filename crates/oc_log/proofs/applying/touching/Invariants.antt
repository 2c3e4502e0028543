use Rattle.std.proofs.Common.{◌≡◌, ◌<◌, ◌≤◌, ◌+◌, ◌-◌, ◌*◌, length, take, get_or}
use Rattle.oc_log.specs.Runs.{Touch}
use Rattle.oc_log.proofs.Touches.{none}
use Rattle.oc_log.proofs.applying.touching.Given as goal

abbrev pub invariant-loop-count : goal.invariant-loop-count
invariant-loop-count l = record {
  some : 0 < l.count;
  inside : l.count ≤ length l.writes;
  touch : Touch l.at (take l.count l.writes);
  last : (get_or l.writes (l.count - 1) none).target + 8 ≡ l.at + 8 * l.count;
}

abbrev pub decreases-loop-count : goal.decreases-loop-count
decreases-loop-count l = length l.writes - l.count
