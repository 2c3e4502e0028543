use Rattle.std.proofs.Common.{◌≡◌, [], inl, Err, None, sym, ap, ◌∙◌, subst}
use Rattle.std.specs.Option.{option_copied}
use Rattle.std.specs.Bool.{IsTrue}
use Rattle.oc_model.specs.Lists.{IsOneOf}
use Rattle.oc_model.specs.Schemas.{Schema, class_named}
use Rattle.oc_chunks.specs.Chunks.{joined}
use Rattle.oc_lists.specs.Following.{reindexed, MayFollow}
use Rattle.oc_refactor.specs.Answers.{declare_told}
use Rattle.oc_container.specs.Contained.{Contained}
use Rattle.oc_container.proofs.Steps.{declared_steps, named_told, no_damage, no_host, none_there, on_error, refused_steps, taken_step}
use Rattle.oc_container.proofs.Unindexed.{nothing_taken, unread}
use Rattle.oc_container.proofs.container.Container.declare.Goals as goal

pub returns-then-is_some-clause-step : goal.returns-then-is_some-clause-step
returns-then-is_some-clause-step g c = λ t m h.
    let s = c.schema-schema.result.now in
    let is : s ≡ ((c.args.self.now.store).session).schema = c.schema-schema.ensures ∙ ap (λ (v : Contained). ((v.store).session).schema) c.self.view_is in
    taken_step c.args.self.now _ c.args.name.now (option_copied c.args.parent) c.args.fields.now s m is (named_told s _ c.args.name.now _ _ c.as_slice.ensures c.class_named.ensures.value c.is_some.ensures ∙ c.if-is_some.true) h

pub returns-in-Err-clause-step : goal.returns-in-Err-clause-step
returns-in-Err-clause-step g c =
    let s = c.schema-schema.result.now in
    let is : s ≡ ((c.args.self.now.store).session).schema = c.schema-schema.ensures ∙ ap (λ (v : Contained). ((v.store).session).schema) c.self.view_is in
    let free : class_named s c.args.name.now ≡ None = none_there _ (named_told s _ c.args.name.now _ _ c.as_slice.ensures c.class_named.ensures.value c.is_some.ensures ∙ c.if-is_some.false) in
    refused_steps c.refused.result (declare_told (Err c.in-Err.reason)) c.args.self.now (g.H.Host.disk c.args.host.now) (IsTrue g.H.Host.tells) c.args.name.now (option_copied c.args.parent) c.args.fields.now s is free c.in-Err.ensures c.refused.ensures.refused

pub returns-in-Err-clause-spent : goal.returns-in-Err-clause-spent
returns-in-Err-clause-spent g c = on_error c.refused.result _ (λ t m h. inl h.stores)

pub returns-in-Err-clause-undamaged : goal.returns-in-Err-clause-undamaged
returns-in-Err-clause-undamaged g c = λ space n e. no_damage c.refused.result space n c.refused.ensures.memory e

pub returns-in-Err-clause-cause : goal.returns-in-Err-clause-cause
returns-in-Err-clause-cause g c = λ e. absurd (no_host c.refused.result c.refused.ensures.memory e)

pub take_schema-requires-clause-follows : goal.take_schema-requires-clause-follows
take_schema-requires-clause-follows g c =
    let s = c.schema-schema.result.now in
    let is : s ≡ ((c.args.self.now.store).session).schema = c.schema-schema.ensures ∙ ap (λ (v : Contained). ((v.store).session).schema) c.self.view_is in
    subst (λ (x : Schema). MayFollow x c.in-Ok.declared) is
    (c.laws_of_following.ensures.declared s c.in-Ok.declared c.args.name.now (option_copied c.args.parent) c.args.fields.now c.keeps_rules.ensures c.requires.name c.requires.fields (sym c.in-Ok.ensures))

pub returns-clause-step : goal.returns-clause-step
returns-clause-step g c =
    let s = c.schema-schema.result.now in
    let is : s ≡ ((c.args.self.now.store).session).schema = c.schema-schema.ensures ∙ ap (λ (v : Contained). ((v.store).session).schema) c.self.view_is in
    let free : class_named s c.args.name.now ≡ None = none_there _ (named_told s _ c.args.name.now _ _ c.as_slice.ensures c.class_named.ensures.value c.is_some.ensures ∙ c.if-is_some.false) in
    declared_steps c.take_schema.result c.args.self.now c.take_schema.new.self (g.H.Host.disk c.args.host.now) (g.H.Host.disk c.take_schema.new.host) (IsTrue g.H.Host.tells) c.args.name.now (option_copied c.args.parent) c.args.fields.now s c.in-Ok.declared is free c.in-Ok.ensures c.take_schema.ensures.step

-- no object is read for the new class
abbrev none_read : (v : Contained) (t : Schema) → Type 0
none_read v t = reindexed ((v.store).session).schema t (joined (((v.store).lists).extents).chunks) ≡ []

pub returns-clause-undamaged : goal.returns-clause-undamaged
returns-clause-undamaged g c = λ space n e.
    let s = c.schema-schema.result.now in
    let is : s ≡ ((c.args.self.now.store).session).schema = c.schema-schema.ensures ∙ ap (λ (v : Contained). ((v.store).session).schema) c.self.view_is in
    let free : class_named s c.args.name.now ≡ None = none_there _ (named_told s _ c.args.name.now _ _ c.as_slice.ensures c.class_named.ensures.value c.is_some.ensures ∙ c.if-is_some.false) in
    let none : none_read c.args.self.now c.in-Ok.declared = unread c.args.self.now s c.in-Ok.declared c.args.name.now (option_copied c.args.parent) c.args.fields.now is free c.in-Ok.ensures in
    subst (IsOneOf n) none (c.take_schema.ensures.damaged space n e).1

pub returns-clause-taken : goal.returns-clause-taken
returns-clause-taken g c =
    let s = c.schema-schema.result.now in
    let is : s ≡ ((c.args.self.now.store).session).schema = c.schema-schema.ensures ∙ ap (λ (v : Contained). ((v.store).session).schema) c.self.view_is in
    let free : class_named s c.args.name.now ≡ None = none_there _ (named_told s _ c.args.name.now _ _ c.as_slice.ensures c.class_named.ensures.value c.is_some.ensures ∙ c.if-is_some.false) in
    let none : none_read c.args.self.now c.in-Ok.declared = unread c.args.self.now s c.in-Ok.declared c.args.name.now (option_copied c.args.parent) c.args.fields.now is free c.in-Ok.ensures in
    nothing_taken (c.args.self.now.store).slots _ none _ _ c.take_schema.ensures.taken
