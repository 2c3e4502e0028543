use Rattle.std.proofs.Common.{[], refl}
use Rattle.oc_run.proofs.Parts.{closes, closes_front, closes_errors, on_err}
use Rattle.oc_run.proofs.lines.Reader.finish.Goals as goal

pub returns-in_err-answer_last-clause-front : goal.returns-in_err-answer_last-clause-front
returns-in_err-answer_last-clause-front g c = on_err c.from_residual.result _ (λ told. c.in_err-answer_last.ensures.front told [])

pub returns-in_err-speak-clause-front : goal.returns-in_err-speak-clause-front
returns-in_err-speak-clause-front g c =
    on_err c.from_residual-in_err-speak.result _ (closes_front g.H.Host.tells (g.H.Host.disk c.args.host.now) _ (g.H.Host.disk c.speak.new.host) _ _ _ _ _ _ refl c.in_ok-answer_last.ensures.goes c.in_err-speak.ensures.front)

pub returns-clause-said : goal.returns-clause-said
returns-clause-said g c = closes g.H.Host.tells (g.H.Host.disk c.args.host.now) _ (g.H.Host.disk c.speak.new.host) _ _ _ _ _ _ refl c.in_ok-answer_last.ensures.goes c.in_ok-speak.ensures.said

pub returns-clause-errors : goal.returns-clause-errors
returns-clause-errors g c = closes_errors g.H.Host.tells _ _ _ _ _ _ _ c.in_ok-answer_last.ensures.goes
