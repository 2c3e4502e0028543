-- What each walk hands on.
use Rattle.std.proofs.Common.{subst, ◌∙◌}
use Rattle.oc_model.specs.Lists.{IsOneOf}
use Rattle.oc_activate.proofs.Rules.{nodes_are, hands_by_class, hands_one, hands_one_less}
use Rattle.oc_activate.proofs.walking.WalkingSpread.hand.Goals as goal

pub class_of-requires : goal.class_of-requires
class_of-requires g c = let s = c.args.self.now in subst (IsOneOf c.args.node) (nodes_are s.walk s.settings.now (g.G.Graph.shown s.graph.now)) c.requires.node

pub returns-in-Activate : goal.returns-in-Activate
returns-in-Activate g c =
    let s = c.args.self.now in
    c.at_least_if.ensures ∙ hands_by_class s.walk s.settings.now (g.G.Graph.shown s.graph.now) c.args.node c.args.budget _ _ c.in-Activate.is c.class_of.ensures c.of-class.ensures

pub returns-in-Show : goal.returns-in-Show
returns-in-Show g c = let s = c.args.self.now in hands_one s.walk s.settings.now (g.G.Graph.shown s.graph.now) c.args.node c.args.budget c.in-Show.is

pub returns-in_default : goal.returns-in_default
returns-in_default g c = let s = c.args.self.now in hands_one_less s.walk s.settings.now (g.G.Graph.shown s.graph.now) c.args.node c.args.budget c.in_default.not-Activate c.in_default.not-Show
