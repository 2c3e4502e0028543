use Rattle.std.proofs.Common.{subst}
use Rattle.oc_model.specs.declared.reach.Node.{Node}
use Rattle.oc_model.specs.Lists.{IsOneOf}
use Rattle.oc_graph.specs.Objects.{extents_in}
use Rattle.oc_graph.specs.Sights.{nodes_in}
use Rattle.oc_graph.proofs.Sights.{live_there, number_there}
use Rattle.oc_graph.proofs.nodes.class_of.Goals as goal

pub live_class-requires : goal.live_class-requires
live_class-requires c =
    let live = (c.args.live.now).live in
    live_there live (extents_in c.args.store.now) c.in-Live.handle (subst (λ (x : Node). IsOneOf x (nodes_in live (extents_in c.args.store.now))) c.in-Live.is c.requires)

pub stored_class-requires : goal.stored_class-requires
stored_class-requires c =
    let live = (c.args.live.now).live in
    number_there live (extents_in c.args.store.now) c.in-Number.number (subst (λ (x : Node). IsOneOf x (nodes_in live (extents_in c.args.store.now))) c.in-Number.is c.requires)
