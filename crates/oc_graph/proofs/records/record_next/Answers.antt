use Rattle.std.proofs.Common.{◌≡◌, ◌∙◌, ap, subst, filter_map, List, ℕ, Some}
use Rattle.oc_model.specs.Lists.{IsOneOf}
use Rattle.oc_model.specs.Nodes.{named_in as names}
use Rattle.oc_slots.specs.declared.slot.Side.TheVariants.{Session}
use Rattle.oc_slots.specs.Stores.{session}
use Rattle.oc_store.specs.Filed.{class_on, IsRead}
use Rattle.oc_store.specs.Stands.{object_slot}
use Rattle.oc_graph.specs.Closed.{names_inside}
use Rattle.oc_graph.specs.Objects.{extents_in, sight}
use Rattle.oc_graph.specs.Sights.{node_in, nodes_in}
use Rattle.oc_graph.proofs.Reading.{all_in, kept_names, read_names}
use Rattle.oc_graph.proofs.records.record_next.Goals as goal

pub returns-clause-value : goal.returns-clause-value
returns-clause-value g c told =
    let v = c.args.store.now in
    let live = (c.args.live.now).live in
    let r = c.in-Some.rec in
    let slot = session v.slots (g.H.Host.disk c.args.host.now) (object_slot c.args.number) in
    let read : IsRead (v.session).schema (class_on Session v c.args.number) slot (Some r) = subst (IsRead (v.session).schema (class_on Session v c.args.number) slot) c.in-Some.is (c.in_ok-rec.ensures.read told) in
    let same = kept_names live v _ _ c.fetch.ensures.same r in
    c.in_ok-named.ensures ∙ same ∙ ap (filter_map (node_in live (extents_in v))) (read_names (v.session).schema (class_on Session v c.args.number) slot r read)

pub returns-clause-inside : goal.returns-clause-inside
returns-clause-inside g c =
    let v = c.args.store.now in
    let k = c.args.live.now in
    let r = c.in-Some.rec in
    let ns : List ℕ = names (v.session).schema r.class r.entries in
    let are : c.in_ok-named.named.items ≡ filter_map (node_in k.live (extents_in v)) ns = c.in_ok-named.ensures ∙ kept_names k.live v _ _ c.fetch.ensures.same r in
    all_in c.in_ok-named.named.items (nodes_in k.live (extents_in v)) (λ y one. names_inside (sight k v (g.H.Host.disk c.args.host.now)) ns y (subst (IsOneOf y) are one))
