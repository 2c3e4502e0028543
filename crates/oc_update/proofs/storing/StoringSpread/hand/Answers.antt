-- What the class of the node hands on.
use Rattle.std.proofs.Common.{subst, ◌∙◌}
use Rattle.oc_model.specs.Lists.{IsOneOf}
use Rattle.oc_update.proofs.Rules.{store_nodes, store_hands}
use Rattle.oc_update.proofs.storing.StoringSpread.hand.Goals as goal

pub class_of-requires : goal.class_of-requires
class_of-requires g c = let s = c.args.self.now in subst (IsOneOf c.args.node) (store_nodes s.settings.now (g.G.Graph.shown s.graph.now)) c.requires.node

pub returns : goal.returns
returns g c =
    let s = c.args.self.now in
    c.at_least_if.ensures ∙ store_hands s.settings.now (g.G.Graph.shown s.graph.now) c.args.node c.args.budget _ _ c.class_of.ensures c.of-class.ensures
