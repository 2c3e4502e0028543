use Rattle.std.proofs.Common.{refl}
use Rattle.oc_run.proofs.Parts.{on_err}
use Rattle.oc_run.proofs.Whole.{ready_front, script_front, script_said, then_rest, then_rest_front, fronts_rest, errs_all}
use Rattle.oc_run.proofs.running.answer_script.Goals as goal

pub returns-in_err-speak-clause-front : goal.returns-in_err-speak-clause-front
returns-in_err-speak-clause-front g c = on_err c.from_residual-in_err-speak.result _ (λ read told. ready_front _ _ _ (g.S.Source.left c.args.script.now) refl (c.in_err-speak.ensures.front told))

pub returns-in_err-read_script-clause-front : goal.returns-in_err-read_script-clause-front
returns-in_err-read_script-clause-front g c =
    on_err c.from_residual-in_err-read_script.result _
    (λ read told. script_front _ _ _ _ (g.S.Source.left c.args.script.now) refl (c.in_ok-speak.ensures.said told)
    (fronts_rest g.H.Host.tells (g.H.Host.disk c.speak.new.host) (g.H.Host.disk c.read_script.new.host) _ _ (g.S.Source.left c.args.script.now) c.new-reader.ensures.store c.new-reader.ensures.line (c.in_err-read_script.ensures.front read) told))

pub returns-in_err-refusals-clause-front : goal.returns-in_err-refusals-clause-front
returns-in_err-refusals-clause-front g c =
    on_err c.from_residual-in_err-refusals.result _
    (λ read told. script_front _ _ _ _ (g.S.Source.left c.args.script.now) refl (c.in_ok-speak.ensures.said told)
    (then_rest_front g.H.Host.tells (g.H.Host.disk c.speak.new.host) _ (g.H.Host.disk c.finish.new.host) _ _ _ _ (g.S.Source.left c.args.script.now) _ _ c.new-reader.ensures.store c.new-reader.ensures.line (c.in_ok-read_script.ensures.goes read) (c.in_err-refusals.ensures.front told) told))

pub returns-clause-said : goal.returns-clause-said
returns-clause-said g c = λ read told.
    script_said _ _ _ _ (g.S.Source.left c.args.script.now) refl (c.in_ok-speak.ensures.said told)
    (then_rest g.H.Host.tells (g.H.Host.disk c.speak.new.host) _ (g.H.Host.disk c.finish.new.host) _ _ _ _ (g.S.Source.left c.args.script.now) _ _ c.new-reader.ensures.store c.new-reader.ensures.line (c.in_ok-read_script.ensures.goes read) (c.in_ok-refusals.ensures.said told) told)

pub returns-clause-errors : goal.returns-clause-errors
returns-clause-errors g c = λ read.
    errs_all g.H.Host.tells _ _ _ _ _ _ (g.S.Source.left c.args.script.now) _ _ _ c.new-reader.ensures.store c.new-reader.ensures.line c.new-reader.ensures.refusals (c.in_ok-read_script.ensures.goes read) c.in_ok-refusals.ensures.errors
