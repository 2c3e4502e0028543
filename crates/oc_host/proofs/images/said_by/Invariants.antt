use Rattle.std.proofs.Common.{◌≡◌, take}
use Rattle.oc_host.specs.Replay.{fresh, replay}
use Rattle.oc_host.proofs.images.said_by.Given as goal

abbrev pub invariant-loop-call : goal.invariant-loop-call
invariant-loop-call l = l.said.items ≡ (replay (fresh l.start) (take l.call-index l.calls)).said
