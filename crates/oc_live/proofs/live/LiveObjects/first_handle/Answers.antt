use Rattle.std.proofs.Common.{sym, subst}
use Rattle.oc_live.specs.Memories.{Memory, LiveFrom}
use Rattle.oc_live.proofs.Undoing.{live_from}
use Rattle.oc_live.proofs.live.LiveObjects.first_handle.Goals as goal

pub returns : goal.returns
returns c =
    let m = c.self.inside in
    subst (λ (k : Memory). LiveFrom k c.first.result) c.self.view_is (subst (LiveFrom _) (sym c.first.ensures.value) (live_from m.heap m.refs m.names m.settings m.commits c.first.ensures.handles))
