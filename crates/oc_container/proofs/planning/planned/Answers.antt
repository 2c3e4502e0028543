use Rattle.std.proofs.Common.{◌≡◌, ◌∙◌, ◌≤◌, ◌+◌, ap, sym, subst, IfOk, IsTrue}
use Rattle.std.specs.List.{All}
use Rattle.oc_host.specs.Counts.{Rose}
use Rattle.oc_host.specs.Disk.{Looks}
use Rattle.oc_model.specs.declared.reach.Node.TheVariants as node
use Rattle.oc_model.specs.Lists.{IsOneOf}
use Rattle.oc_model.specs.Walks.{IsBest}
use Rattle.oc_reach.specs.Graphs.{store_over}
use Rattle.oc_graph.specs.Objects.{extents_in, sight_of, RunObjects}
use Rattle.oc_graph.specs.Sights.{graph_in, nodes_in, records_of}
use Rattle.oc_store.specs.Filed.{Agrees, FiledStore}
use Rattle.oc_store.specs.Reindexing.{objects_len}
use Rattle.oc_container.specs.Contained.{keeping}
use Rattle.oc_container.proofs.PlannedWalks.{live_node, went, Went}
use Rattle.oc_container.proofs.planning.planned.Given.{Over}
use Rattle.oc_container.proofs.planning.planned.Goals as goal

pub plan_store-nodes-requires-clause-root : goal.plan_store-nodes-requires-clause-root
plan_store-nodes-requires-clause-root g c =
    subst (λ (o : RunObjects). IsOneOf (node.Live c.args.handle) (nodes_in (o.memory).live (extents_in o.store))) (sym c.over-objects.ensures)
    (live_node c.args.live.now c.args.store.now c.args.handle c.requires.live)

-- as the objects were at first
abbrev begun : (g : Over) (c : goal.After-host-1 g) → RunObjects
begun g c = record { store_name = c.over-arg-1.given; host_name = c.over-arg-2-1.given; memory = c.args.live.now; store = c.args.store.now; disk = g.H.Host.disk c.args.host.now; faults = g.H.Host.faults c.args.host.now; taken = g.H.Host.taken c.args.host.now }

all_went : (g : Over) (c : goal.After-host-1 g) → Went c.plan_store-nodes.result g.H.Host.tells c.args.live.now.settings (begun g c) c.plan_store-nodes.new.graph c.args.handle c.args.depth
all_went g c =
    subst (λ s. Went c.plan_store-nodes.result g.H.Host.tells c.args.live.now.settings s c.plan_store-nodes.new.graph c.args.handle c.args.depth) c.over-objects.ensures
    (subst (λ settings. Went c.plan_store-nodes.result g.H.Host.tells settings c.over-objects.result c.plan_store-nodes.new.graph c.args.handle c.args.depth) c.settings-settings.ensures
    (went c.plan_store-nodes.result g.H.Host.tells c.settings-settings.result.now c.over-objects.result c.plan_store-nodes.new.graph c.args.handle c.args.depth c.plan_store-nodes.ensures.goes c.plan_store-nodes.ensures.caused))

-- the store is as the plan left it, and so is the host's file
store_is : (g : Over) (c : goal.After-host-1 g) → c.store-1.given.0 ≡ (c.plan_store-nodes.new.graph).store
store_is g c =
    c.store-1.given.1 (sym (c.into_parts-store.ensures.store_name ∙ (all_went g c).2.store_name)) ∙ c.give_back.ensures.store ∙ c.into_parts-store.ensures.store

host_is : (g : Over) (c : goal.After-host-1 g) → c.host-1.given.0 ≡ c.into_parts-store.result.1.now
host_is g c = c.host-1.given.1 (sym (c.into_parts-store.ensures.host_name ∙ (all_went g c).2.host_name)) ∙ c.give_back.ensures.host

disk_is : (g : Over) (c : goal.After-host-1 g) → g.H.Host.disk c.host-1.given.0 ≡ (c.plan_store-nodes.new.graph).disk
disk_is g c = ap g.H.Host.disk (host_is g c) ∙ c.into_parts-store.ensures.disk

faults_are : (g : Over) (c : goal.After-host-1 g) → g.H.Host.faults c.host-1.given.0 ≡ (c.plan_store-nodes.new.graph).faults
faults_are g c = ap g.H.Host.faults (host_is g c) ∙ c.into_parts-store.ensures.faults

taken_is : (g : Over) (c : goal.After-host-1 g) → g.H.Host.taken c.host-1.given.0 ≡ (c.plan_store-nodes.new.graph).taken
taken_is g c = ap g.H.Host.taken (host_is g c) ∙ c.into_parts-store.ensures.taken

pub returns-clause-best : goal.returns-clause-best
returns-clause-best g c =
    subst (λ (o : RunObjects). IfOk c.plan_store-nodes.result (λ v. IsTrue g.H.Host.tells → IsBest (store_over c.args.live.now.settings (graph_in g.H.Host.tells (sight_of o))) (node.Live c.args.handle) c.args.depth v.items)) c.over-objects.ensures
    (subst (λ s. IfOk c.plan_store-nodes.result (λ v. IsTrue g.H.Host.tells → IsBest (store_over s (graph_in g.H.Host.tells (sight_of c.over-objects.result))) (node.Live c.args.handle) c.args.depth v.items)) c.settings-settings.ensures
    c.plan_store-nodes.ensures.best)

pub returns-clause-nodes : goal.returns-clause-nodes
returns-clause-nodes g c =
    subst (λ (o : RunObjects). IfOk c.plan_store-nodes.result (λ v. All (λ e. IsOneOf e.0 (nodes_in (o.memory).live (extents_in o.store))) v.items)) c.over-objects.ensures c.plan_store-nodes.ensures.nodes

pub returns-clause-unchanged : goal.returns-clause-unchanged
returns-clause-unchanged g c = subst (λ (v : FiledStore). v ≡ keeping (v.slots).cached c.args.store.now) (sym (store_is g c)) (all_went g c).2.store

pub returns-clause-agrees : goal.returns-clause-agrees
returns-clause-agrees g c =
    subst (λ (v : FiledStore). IsTrue g.H.Host.tells → Agrees v (g.H.Host.disk c.host-1.given.0)) (sym (store_is g c))
    (subst (λ d. IsTrue g.H.Host.tells → Agrees (c.plan_store-nodes.new.graph).store d) (sym (disk_is g c)) c.into_parts-store.ensures.agrees)

pub returns-clause-looks : goal.returns-clause-looks
returns-clause-looks g c = λ tells. subst (Looks (g.H.Host.disk c.args.host.now)) (sym (disk_is g c)) ((all_went g c).2.looks tells)

pub returns-clause-later : goal.returns-clause-later
returns-clause-later g c = subst (λ n. g.H.Host.faults c.args.host.now ≤ n) (sym (faults_are g c)) (all_went g c).2.faults

pub returns-clause-cause : goal.returns-clause-cause
returns-clause-cause g c = λ is. subst (Rose (g.H.Host.faults c.args.host.now)) (sym (faults_are g c)) ((all_went g c).3 is)

pub returns-clause-asked : goal.returns-clause-asked
returns-clause-asked g c =
    let w = all_went g c in
    (w.0, w.1, subst (λ n. n ≤ g.H.Host.taken c.args.host.now + objects_len (c.args.store.now).slots (records_of c.args.live.now.live w.0)) (sym (taken_is g c)) w.2.taken, w.4)
