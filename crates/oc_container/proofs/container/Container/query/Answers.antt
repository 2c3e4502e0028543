use Rattle.std.proofs.Common.{◌≡◌, ◌∙◌, ap, sym, subst, None, Some}
use Rattle.oc_model.specs.Schemas.{class_named}
use Rattle.oc_chunks.specs.Chunks.{joined}
use Rattle.oc_store.specs.Filed.{Shows}
use Rattle.oc_container.specs.Asked.{objects_below}
use Rattle.oc_container.specs.Contained.{Contained}
use Rattle.oc_container.proofs.Found.{named_in, query_meets, refused_meets, still_holds}
use Rattle.oc_container.proofs.container.Container.query.Goals as goal

pub returns-in_default-clause-step : goal.returns-in_default-clause-step
returns-in_default-clause-step g c = λ told m h.
    let v = c.args.self.now in
    let schema : c.schema.result.now ≡ ((v.store).session).schema = c.schema.ensures ∙ ap (λ (w : Contained). ((w.store).session).schema) c.self.view_is in
    let none : class_named ((v.store).session).schema c.args.class.now ≡ None = named_in v c.schema.result.now _ c.args.class.now _ schema c.as_slice.ensures c.class_named.ensures.value ∙ c.in_default.is in
    refused_meets v (g.H.Host.disk c.args.host.now) m c.args.class.now h none

pub returns-in_err-lines-clause-holds : goal.returns-in_err-lines-clause-holds
returns-in_err-lines-clause-holds g c = λ told m h. still_holds c.args.self.now _ _ _ _ _ m c.self.view_is h (c.stored_lines.ensures.shows told m.committed m.session)

pub returns-clause-holds : goal.returns-clause-holds
returns-clause-holds g c = λ told m h. still_holds c.args.self.now _ _ _ _ _ m c.self.view_is h (c.stored_lines.ensures.shows told m.committed m.session)

pub returns-clause-step : goal.returns-clause-step
returns-clause-step g c = λ told m h.
    let v = c.args.self.now in
    let schema : c.schema.result.now ≡ ((v.store).session).schema = c.schema.ensures ∙ ap (λ (w : Contained). ((w.store).session).schema) c.self.view_is in
    let named : class_named ((v.store).session).schema c.args.class.now ≡ Some c.in-Some.class = named_in v c.schema.result.now _ c.args.class.now _ schema c.as_slice.ensures c.class_named.ensures.value ∙ c.in-Some.is in
    let are : c.deref.result.now ≡ objects_below ((v.store).session).schema c.in-Some.class (joined (((v.store).lists).extents).chunks) =
    c.deref.ensures.value ∙ c.in_ok-numbers.ensures ∙ ap (λ (w : Contained). objects_below ((w.store).session).schema c.in-Some.class (joined (((w.store).lists).extents).chunks)) c.self.view_is in
    query_meets v _ (g.H.Host.disk c.args.host.now) _ m c.args.class.now c.in-Some.class c.deref.result.now c.in_ok-lines.lines h
    (still_holds v _ _ _ _ _ m c.self.view_is h (c.stored_lines.ensures.shows told m.committed m.session)) named are
    (c.in_ok-lines.ensures.lines told m.committed m.session (subst (λ (w : Contained). Shows w.store (g.H.Host.disk c.args.host.now) m.committed m.session) (sym c.self.view_is) h.stores))
