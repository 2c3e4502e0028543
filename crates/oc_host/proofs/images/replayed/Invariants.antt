use Rattle.std.proofs.Common.{take}
use Rattle.oc_host.specs.Replay.{fresh, replay}
use Rattle.oc_host.specs.ImageSteps.{AreImages}
use Rattle.oc_host.proofs.images.replayed.Given as goal

abbrev pub invariant-loop-call : goal.invariant-loop-call
invariant-loop-call l = AreImages l.fn.byte (replay (fresh l.start) (take l.call-index l.calls)) l.images
