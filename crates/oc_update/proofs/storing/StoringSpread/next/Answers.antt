-- The walk has the nodes and the edges of the graph.
use Rattle.std.proofs.Common.{◌≡◌, IfOk, sym, subst}
use Rattle.std.specs.Bool.{IsTrue}
use Rattle.std.specs.List.{All}
use Rattle.oc_model.specs.Lists.{IsOneOf}
use Rattle.oc_update.proofs.Rules.{store_nodes, store_next}
use Rattle.oc_update.proofs.storing.StoringSpread.next.Goals as goal

pub next-requires : goal.next-requires
next-requires g c = let s = c.args.self.now in subst (IsOneOf c.args.node) (store_nodes s.settings.now (g.G.Graph.shown s.graph.now)) c.requires

pub returns-clause-value : goal.returns-clause-value
returns-clause-value g c =
    let s = c.args.self.now in
    subst (λ f. IfOk c.next.result (λ v. IsTrue g.G.Graph.tells → v.items ≡ f c.args.node)) (sym (store_next s.settings.now (g.G.Graph.shown s.graph.now))) c.next.ensures.value

pub returns-clause-inside : goal.returns-clause-inside
returns-clause-inside g c =
    let s = c.args.self.now in
    subst (λ ns. IfOk c.next.result (λ v. All (λ y. IsOneOf y ns) v.items)) (sym (store_nodes s.settings.now (g.G.Graph.shown s.graph.now))) c.next.ensures.inside
