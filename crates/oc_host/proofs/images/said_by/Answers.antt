use Rattle.std.proofs.Common.{◌≡◌, take, sym, subst, ap, ◌∙◌}
use Rattle.oc_host.specs.declared.memory.Call.{Call}
use Rattle.oc_host.specs.Disk.{Disk}
use Rattle.oc_host.specs.Replay.{fresh, replay, after_call}
use Rattle.oc_host.proofs.ImageLaws.{replay_more}
use Rattle.oc_host.proofs.images.said_by.Goals as goal

pub loop-call-preserved : goal.loop-call-preserved
loop-call-preserved c =
    let d = replay (fresh c.args.start.now) (take c.loop-call.call-index c.args.calls.now) in
    let said = subst (λ (call : Call). c.say.new.said.items ≡ (after_call call d).said) c.call-item.is (c.in_ok-say.ensures d c.loop-call.invariant) in
    said ∙ sym (ap (λ (e : Disk). e.said) (replay_more c.args.start.now c.args.calls.now c.loop-call.call-index c.call-item.result c.loop-call-test.true))
