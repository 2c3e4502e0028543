use Rattle.std.proofs.Common.{take, sym, subst}
use Rattle.oc_host.specs.declared.memory.Call.{Call}
use Rattle.oc_host.specs.Disk.{Disk}
use Rattle.oc_host.specs.ImageSteps.{AreImages}
use Rattle.oc_host.specs.Replay.{fresh, replay, after_call}
use Rattle.oc_host.proofs.ImageLaws.{replay_more}
use Rattle.oc_host.proofs.images.replayed.Goals as goal

pub loop-call-preserved : goal.loop-call-preserved
loop-call-preserved c =
    let d = replay (fresh c.args.start.now) (take c.loop-call.call-index c.args.calls.now) in
    let stepped = subst (λ (call : Call). AreImages c.args.byte (after_call call d) c.in_ok-images.images) c.call-item.is (c.in_ok-images.ensures d c.loop-call.invariant) in
    subst (λ (e : Disk). AreImages c.args.byte e c.in_ok-images.images) (sym (replay_more c.args.start.now c.args.calls.now c.loop-call.call-index c.call-item.result c.loop-call-test.true)) stepped
