use Rattle.std.proofs.Common.{◌≡◌, ◌∙◌, ap, sym, subst, inl, [], Option, Some}
use Rattle.std.specs.List.{cons_option}
use Rattle.std.proofs.lemmas.Result.{IfOk-weaker}
use Rattle.oc_model.specs.Lists.{IsOneOf}
use Rattle.oc_graph.specs.Objects.{extents_in, sight}
use Rattle.oc_graph.specs.Sights.{nodes_in, record_of, values_at}
use Rattle.oc_graph.proofs.Reading.{all_in}
use Rattle.oc_graph.proofs.Sights.{at_inside, next_read}
use Rattle.oc_graph.proofs.records.next.Goals as goal

pub returns-in_default-clause-inside : goal.returns-in_default-clause-inside
returns-in_default-clause-inside g c =
    let v = c.args.store.now in
    let k = c.args.live.now in
    let are : c.in_ok-named.named.items ≡ values_at k.live (v.session).schema c.args.node = c.in_ok-named.ensures ∙ ap (λ s. values_at k.live s c.args.node) c.schema.ensures in
    all_in c.in_ok-named.named.items (nodes_in k.live (extents_in v)) (λ y one. at_inside (sight k v (g.H.Host.disk c.args.host.now)) c.args.node y (subst (IsOneOf y) are one))

pub returns-clause-value : goal.returns-clause-value
returns-clause-value g c =
    let here : record_of (c.args.live.now).live c.args.node ≡ Some c.in-Some.number = sym c.record_of.ensures ∙ c.in-Some.is in
    IfOk-weaker c.record_next.result _ _ (λ v is told. is told ∙ sym (next_read (sight c.args.live.now c.args.store.now (g.H.Host.disk c.args.host.now)) c.args.node c.in-Some.number here)) c.record_next.ensures.value

pub returns-clause-damaged : goal.returns-clause-damaged
returns-clause-damaged g c space n is =
    let here : record_of (c.args.live.now).live c.args.node ≡ Some c.in-Some.number = sym c.record_of.ensures ∙ c.in-Some.is in
    let r = c.record_next.ensures.damaged space n is in
    (r.0, subst (λ (o : Option _). IsOneOf n (cons_option o [])) (sym here) (inl r.1), r.2)
