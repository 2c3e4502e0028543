use Rattle.std.proofs.Common.{subst}
use Rattle.oc_model.specs.declared.reach.Node.{Node}
use Rattle.oc_model.specs.Lists.{IsOneOf}
use Rattle.oc_graph.specs.Objects.{extents_in}
use Rattle.oc_graph.specs.Sights.{nodes_in}
use Rattle.oc_graph.proofs.Sights.{live_there}
use Rattle.oc_graph.proofs.nodes.is_unsaved.Goals as goal

pub is_unsaved_at-requires : goal.is_unsaved_at-requires
is_unsaved_at-requires c =
    let live = (c.args.live.now).live in
    live_there live (extents_in c.args.store.now) c.in-Live.handle (subst (λ (x : Node). IsOneOf x (nodes_in live (extents_in c.args.store.now))) c.in-Live.is c.requires)
