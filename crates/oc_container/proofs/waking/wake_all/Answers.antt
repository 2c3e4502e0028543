use Rattle.std.proofs.Common.{refl, sym, ap, ◌∙◌, ◌+◌, drop, arith}
use Rattle.oc_model.specs.Stores.{class_of}
use Rattle.oc_container.specs.Outlined.{session_listed}
use Rattle.oc_container.specs.Woken.{with_each_woken}
use Rattle.oc_container.proofs.MoreLive.{more_still, no_more, numbers_from}
use Rattle.oc_container.proofs.waking.wake_all.Goals as goal

pub loop-number-init : goal.loop-number-init
loop-number-init c = record { woken = refl; next = omega arith; more = no_more c.args.live.now }

pub returns-in_err-wake-clause-more : goal.returns-in_err-wake-clause-more
returns-in_err-wake-clause-more c = more_still c.args.live.now c.loop-number.live c.wake.new.live c.loop-number.invariant.more c.wake.ensures.more

pub loop-number-preserved : goal.loop-number-preserved
loop-number-preserved c =
    let ns = c.args.numbers.now in
    let i = c.loop-number.number-index in
    let class = class_of (session_listed c.args.store.now) in
    record {
      woken =
          ap (λ k. with_each_woken class k (drop (i + 1) ns)) c.in_ok-wake.ensures.woken
          ∙ sym (ap (with_each_woken class c.loop-number.live) (numbers_from ns i c.loop-number-test.true))
          ∙ c.loop-number.invariant.woken;
      next = omega (arith, c.wake.ensures.next, c.loop-number.invariant.next);
      more = more_still c.args.live.now c.loop-number.live c.wake.new.live c.loop-number.invariant.more c.wake.ensures.more;
    }
