-- An unsaved node arrives with 1 at least.
use Rattle.std.proofs.Common.{subst, ap, ◌∙◌}
use Rattle.oc_model.specs.Lists.{IsOneOf}
use Rattle.oc_model.specs.Walks.{at_least_if}
use Rattle.oc_update.proofs.Rules.{store_nodes, store_arrives}
use Rattle.oc_update.proofs.storing.StoringSpread.arrive.Goals as goal

pub unsaved-requires : goal.unsaved-requires
unsaved-requires g c = let s = c.args.self.now in subst (IsOneOf c.args.node) (store_nodes s.settings.now (g.G.Graph.shown s.graph.now)) c.requires.node

pub returns : goal.returns
returns g c =
    let s = c.args.self.now in
    c.at_least_if.ensures ∙ ap (λ b. at_least_if b c.args.handed) c.unsaved.ensures ∙ store_arrives s.settings.now (g.G.Graph.shown s.graph.now) c.args.node c.args.handed
