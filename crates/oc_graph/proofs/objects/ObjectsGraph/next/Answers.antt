use Rattle.std.proofs.Common.{◌∷◌, [], refl, subst}
use Rattle.std.specs.List.{All}
use Rattle.std.specs.Prelude.{IfErr, IfOk}
use Rattle.oc_model.specs.Lists.{IsOneOf}
use Rattle.oc_graph.specs.Objects.{extents_in, Caused, RunObjects}
use Rattle.oc_graph.specs.Sights.{nodes_in}
use Rattle.oc_graph.proofs.Calls.{caused_by}
use Rattle.oc_graph.proofs.objects.ObjectsGraph.next.Goals as goal

pub returns-clause-inside : goal.returns-clause-inside
returns-clause-inside g c =
    subst (λ (o : RunObjects). IfOk c.next.result (λ v. All (λ y. IsOneOf y (nodes_in (o.memory).live (extents_in o.store))) v.items)) c.self.view_is c.next.ensures.inside

pub returns-clause-caused : goal.returns-clause-caused
returns-clause-caused g c =
    let o = c.self.inside in
    let told = g.H.Host.tells in
    let s : RunObjects = record { store_name = o.store.ghost_name; host_name = o.host.ghost_name; memory = o.live.now; store = o.store.now; disk = g.H.Host.disk o.host.now; faults = g.H.Host.faults o.host.now; taken = g.H.Host.taken o.host.now } in
    let t : RunObjects = record { store_name = o.store.ghost_name; host_name = o.host.ghost_name; memory = o.live.now; store = c.next.new.store; disk = g.H.Host.disk c.next.new.host; faults = g.H.Host.faults c.next.new.host; taken = g.H.Host.taken c.next.new.host } in
    let e = c.next.ensures in
    subst (λ (o : RunObjects). IfErr c.next.result (λ f. Caused told o f t (c.args.node ∷ []))) c.self.view_is
    (caused_by c.next.result told s t (c.args.node ∷ [])
    (record { store_name = refl; host_name = refl; memory = refl; store = e.same; looks = e.looks; faults = e.later; taken = e.taken })
    e.cause e.damaged)
