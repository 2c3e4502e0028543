use Rattle.std.proofs.Common.{◌≡◌, ◌+◌, ◌-◌, ◌*◌, get_or, ap, ◌∙◌, ℕ, arith, rules}
use Rattle.oc_log.proofs.Touches.{none, touch_next}
use Rattle.oc_log.proofs.applying.touching.Goals as goal

pub loop-count-preserved : goal.loop-count-preserved
unfolding none
loop-count-preserved c =
    let ws = c.args.writes.now in
    let n = c.loop-count.count in
    let inv = c.loop-count.invariant in
    let gap : (get_or ws n none).target - (get_or ws (n - 1) none).target ≡ 8 = search rules in
    let next : (get_or ws n none).target ≡ c.args.at + 8 * n = omega (arith, gap, inv.last) in
    let same : n + 1 - 1 ≡ n = omega arith in
    record {
      some = omega arith;
      inside = omega (arith, c.loop-count-test.true);
      touch = touch_next ws c.args.at n c.loop-count-test.true inv.touch next;
      last = ap (λ (k : ℕ). (get_or ws k none).target + 8) same ∙ omega (arith, next);
    }
