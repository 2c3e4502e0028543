use Rattle.std.proofs.Common.{subst}
use Rattle.oc_live.specs.Memories.{Memory}
use Rattle.oc_live.specs.Joined.{ListsAll}
use Rattle.oc_live.proofs.Enlisting.{lists_all}
use Rattle.oc_live.proofs.live.LiveObjects.refs.Goals as goal

pub returns : goal.returns
returns c = subst (λ (m : Memory). ListsAll c.self.inside.refs m.live) c.self.view_is (lists_all c.self.inside.heap c.self.inside.refs c.self.invariant)
