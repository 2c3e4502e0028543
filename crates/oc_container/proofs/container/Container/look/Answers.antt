use Rattle.std.proofs.Common.{◌≡◌, None, [], refl, sym, ap, ◌∙◌, subst, inl, rules}
use Rattle.std.specs.Bool.{IsTrue}
use Rattle.std.specs.Option.{option_copied}
use Rattle.oc_model.specs.declared.answer.Answer.TheVariants as answer
use Rattle.oc_model.specs.declared.answer.Word.TheVariants as word
use Rattle.oc_model.specs.declared.command.Command.TheVariants as line
use Rattle.oc_model.specs.Lists.{IsOneOf}
use Rattle.oc_machine.specs.Outcomes.{settled}
use Rattle.oc_machine.specs.QueryLines.{query_step}
use Rattle.oc_container.specs.Asked.{objects_read}
use Rattle.oc_container.specs.Built.{built_outcome, class_outcome}
use Rattle.oc_container.specs.Contained.{Meets}
use Rattle.oc_container.proofs.Commands.{class_is, none_in, outcome_met, query_is, rollback_is}
use Rattle.oc_container.proofs.Steps.{on_error, refusal_met}
use Rattle.oc_container.proofs.container.Container.look.Goals as goal

pub returns-in-Class-clause-step : goal.returns-in-Class-clause-step
returns-in-Class-clause-step g c =
    outcome_met c.declare.result c.args.self.now c.declare.new.self (g.H.Host.disk c.args.host.now) (g.H.Host.disk c.declare.new.host) (IsTrue g.H.Host.tells)
    (λ m. class_outcome m c.in-Class.name (option_copied c.as_ref.result) c.in-Class.fields) (λ m. built_outcome m c.args.command.now)
    (λ m. class_is m c.in-Class.name (option_copied c.as_ref.result) c.in-Class.fields
    ∙ ap (λ p. built_outcome m (line.Class c.in-Class.name p c.in-Class.fields)) c.as_ref.ensures.value
    ∙ ap (built_outcome m) (sym c.in-Class.is))
    c.declare.ensures.step

pub returns-in-Query-default-None-default-clause-step : goal.returns-in-Query-default-None-default-clause-step
returns-in-Query-default-None-default-clause-step g c =
    let none : c.in-Query-default-None-default.filter ≡ None = search rules in
    let empty : c.in-Query-default-None-default.criteria ≡ [] = none_in _ _ _ c.as_slice.ensures c.is_empty.ensures c.if-is_empty.true in
    let is : c.args.command.now ≡ line.Query c.in-Query-default-None-default.class None [] = c.in-Query-default-None-default.is ∙ (λ i. line.Query c.in-Query-default-None-default.class (none i) (empty i)) in
    outcome_met c.query.result c.args.self.now c.query.new.self (g.H.Host.disk c.args.host.now) (g.H.Host.disk c.query.new.host) (IsTrue g.H.Host.tells)
    (λ m. settled m (query_step m c.in-Query-default-None-default.class None [])) (λ m. built_outcome m c.args.command.now)
    (λ m. query_is m c.in-Query-default-None-default.class ∙ ap (built_outcome m) (sym is))
    c.query.ensures.step

pub returns-in-Query-default-None-default-clause-spent : goal.returns-in-Query-default-None-default-clause-spent
returns-in-Query-default-None-default-clause-spent g c = on_error c.query.result _ (λ t m h. inl (c.query.ensures.holds t m h).stores)

pub returns-in-Query-default-None-default-clause-damaged : goal.returns-in-Query-default-None-default-clause-damaged
returns-in-Query-default-None-default-clause-damaged g c = λ space n err.
    let none : c.in-Query-default-None-default.filter ≡ None = search rules in
    let empty : c.in-Query-default-None-default.criteria ≡ [] = none_in _ _ _ c.as_slice.ensures c.is_empty.ensures c.if-is_empty.true in
    let is : c.args.command.now ≡ line.Query c.in-Query-default-None-default.class None [] = c.in-Query-default-None-default.is ∙ (λ i. line.Query c.in-Query-default-None-default.class (none i) (empty i)) in
    let d = c.query.ensures.damaged space n err in
    (d.0, subst (λ k. IsOneOf n (objects_read (c.args.self.now).store k)) (sym is) d.1, d.2)

pub returns-in-Rollback-clause-step : goal.returns-in-Rollback-clause-step
returns-in-Rollback-clause-step g c = λ t m h.
    subst (λ o. Meets c.rollback.new.self (g.H.Host.disk c.args.host.now) c.rollback.result o) (rollback_is m ∙ ap (built_outcome m) (sym c.in-Rollback.is)) (c.rollback.ensures.step _ m h)

pub returns-in-Rollback-clause-agrees : goal.returns-in-Rollback-clause-agrees
returns-in-Rollback-clause-agrees g c = λ t. c.rollback.ensures.agrees _ (c.requires.agrees t)

pub returns-in_default-clause-step : goal.returns-in_default-clause-step
returns-in_default-clause-step g c = λ t m h.
    let none : built_outcome m c.args.command.now ≡ (m, answer.Refused word.Syntax) = search rules in
    refusal_met c.args.self.now _ _ m word.Syntax (built_outcome m c.args.command.now) h refl none
