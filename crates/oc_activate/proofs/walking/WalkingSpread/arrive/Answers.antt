-- An activation clamps what is handed, and every other walk takes it as it is.
use Rattle.std.proofs.Common.{subst, ◌∙◌}
use Rattle.oc_model.specs.Lists.{IsOneOf}
use Rattle.oc_activate.proofs.Rules.{nodes_are, arrives_clamped, arrives_as_handed}
use Rattle.oc_activate.proofs.walking.WalkingSpread.arrive.Goals as goal

pub class_of-requires : goal.class_of-requires
class_of-requires g c = let s = c.args.self.now in subst (IsOneOf c.args.node) (nodes_are s.walk s.settings.now (g.G.Graph.shown s.graph.now)) c.requires.node

pub returns-in-Activate : goal.returns-in-Activate
returns-in-Activate g c =
    let s = c.args.self.now in
    c.clamped.ensures ∙ arrives_clamped s.walk s.settings.now (g.G.Graph.shown s.graph.now) c.args.node c.args.handed _ _ c.in-Activate.is c.class_of.ensures c.of.ensures

pub returns-in_default : goal.returns-in_default
returns-in_default g c = let s = c.args.self.now in arrives_as_handed s.walk s.settings.now (g.G.Graph.shown s.graph.now) c.args.node c.args.handed c.in_default.not-Activate
