use Rattle.std.proofs.Common.{rules, ◌≡◌, false, Some}
use Rattle.std.specs.Prelude.{None}
use Rattle.oc_machine.specs.Printing.{answer_text as text_of}
use Rattle.oc_machine.specs.Runs.{is_built, is_refusal as refuses, line_step}
use Rattle.oc_run.proofs.Parts.{quiet, answered, answered_front, on_err}
use Rattle.oc_run.proofs.lines.Reader.answer.Goals as goal

pub returns-in_default-clause-goes : goal.returns-in_default-clause-goes
returns-in_default-clause-goes g c =
    let step : line_step is_built false c.args.self.now.store c.args.self.now.line.items ≡ (c.respond.new.store, None) = search rules in
    quiet g.H.Host.tells (g.H.Host.disk c.args.host.now) _ _ _ _ c.args.self.now.one_line step

pub returns-in_err-speak-clause-front : goal.returns-in_err-speak-clause-front
returns-in_err-speak-clause-front g c =
    let step : line_step is_built false c.args.self.now.store c.args.self.now.line.items ≡ (c.respond.new.store, Some c.in-Some.answer) = search rules in
    let text : c.deref-2.result.now ≡ text_of c.in-Some.answer = search rules in
    on_err c.from_residual-in_err-speak.result _ (answered_front g.H.Host.tells (g.H.Host.disk c.args.host.now) (g.H.Host.disk c.speak.new.host) _ _ c.in-Some.answer _ _ c.args.self.now.one_line step text c.in_err-speak.ensures.front)

pub returns-clause-goes : goal.returns-clause-goes
returns-clause-goes g c =
    let step : line_step is_built false c.args.self.now.store c.args.self.now.line.items ≡ (c.respond.new.store, Some c.in-Some.answer) = search rules in
    let text : c.deref-2.result.now ≡ text_of c.in-Some.answer = search rules in
    let refusal : c.is_refusal.result ≡ refuses c.in-Some.answer = search rules in
    rw refusal (answered g.H.Host.tells (g.H.Host.disk c.args.host.now) (g.H.Host.disk c.speak.new.host) _ _ c.in-Some.answer _ _ _ c.args.self.now.one_line step text c.in_ok-speak.ensures.said)
