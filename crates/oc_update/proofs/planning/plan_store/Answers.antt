-- What the walk asks for, the graph is asked for.
use Rattle.std.proofs.Common.{◌≡◌, IfOk, sym, subst}
use Rattle.std.specs.List.{All}
use Rattle.oc_model.specs.declared.reach.Node.{Node}
use Rattle.oc_model.specs.Lists.{IsOneOf}
use Rattle.oc_update.proofs.Rules.{store_nodes, on_ok, if_err}
use Rattle.oc_update.proofs.planning.plan_store.Goals as goal

pub reached-requires-clause-root : goal.reached-requires-clause-root
reached-requires-clause-root g c = subst (IsOneOf c.args.root) (sym (store_nodes c.args.settings.now (g.G.Graph.shown c.args.graph.now))) c.requires.root

pub returns-clause-nodes : goal.returns-clause-nodes
returns-clause-nodes g c = subst (λ ns. IfOk c.reached.result (λ v. All (λ e. IsOneOf e.0 ns) v.items)) (store_nodes c.args.settings.now (g.G.Graph.shown c.args.graph.now)) c.reached.ensures.nodes

pub returns-clause-goes : goal.returns-clause-goes
returns-clause-goes g c = on_ok c.reached.result (λ h. (h.0, subst (λ x. g.G.Graph.Goes c.args.graph.now x h.0) (sym (c.graph-1.given.1 (sym h.1.0))) h.1.2, h.2)) c.reached.ensures.goes

pub returns-clause-caused : goal.returns-clause-caused
returns-clause-caused g c = if_err c.reached.result (λ f h. (h.0, subst (λ x. g.G.Graph.Caused c.args.graph.now f x h.0) (sym (c.graph-1.given.1 (sym h.1.0))) h.1.2, h.2)) c.reached.ensures.caused
