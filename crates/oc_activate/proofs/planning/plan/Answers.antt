-- What the walk asks for, the graph is asked for.
use Rattle.std.proofs.Common.{◌≡◌, ◌≤◌, IfOk, sym, subst}
use Rattle.std.specs.List.{All}
use Rattle.oc_model.specs.declared.reach.Node.{Node}
use Rattle.oc_model.specs.Lists.{IsOneOf}
use Rattle.oc_reach.specs.Asking.{AskedOnce}
use Rattle.oc_activate.specs.Plans.{walk_over}
use Rattle.oc_activate.proofs.Rules.{nodes_are, begins_small, on_ok, if_err}
use Rattle.oc_activate.proofs.planning.plan.Goals as goal

pub reached-requires-clause-root : goal.reached-requires-clause-root
reached-requires-clause-root g c = subst (IsOneOf c.args.root) (sym (nodes_are c.args.walk c.args.settings.now (g.G.Graph.shown c.args.graph.now))) c.requires.root

pub reached-requires-clause-small : goal.reached-requires-clause-small
reached-requires-clause-small g c = subst (λ n. n ≤ 65535) (sym c.begins_with-depth.ensures) (begins_small c.args.walk c.args.depth c.requires.small)

pub returns-clause-nodes : goal.returns-clause-nodes
returns-clause-nodes g c = subst (λ ns. IfOk c.reached.result (λ v. All (λ e. IsOneOf e.0 ns) v.items)) (nodes_are c.args.walk c.args.settings.now (g.G.Graph.shown c.args.graph.now)) c.reached.ensures.nodes

pub returns-clause-goes : goal.returns-clause-goes
returns-clause-goes g c =
    let w = walk_over c.args.walk c.args.settings.now (g.G.Graph.shown c.args.graph.now) in
    on_ok c.reached.result (λ h. (h.0, subst (λ x. g.G.Graph.Goes c.args.graph.now x h.0) (sym (c.graph-1.given.1 (sym h.1.0))) h.1.3, subst (λ d. AskedOnce w g.G.Graph.tells c.args.root d h.0) c.begins_with-depth.ensures h.2)) c.reached.ensures.goes

pub returns-clause-caused : goal.returns-clause-caused
returns-clause-caused g c =
    let w = walk_over c.args.walk c.args.settings.now (g.G.Graph.shown c.args.graph.now) in
    if_err c.reached.result (λ f h. (h.0, subst (λ x. g.G.Graph.Caused c.args.graph.now f x h.0) (sym (c.graph-1.given.1 (sym h.1.0))) h.1.3, subst (λ d. AskedOnce w g.G.Graph.tells c.args.root d h.0) c.begins_with-depth.ensures h.2)) c.reached.ensures.caused
