use Rattle.std.proofs.Common.{◌≢◌, [], arith}
use Rattle.std.proofs.lemmas.Bool.Decides.{nat_tests}
use Rattle.oc_run.proofs.Parts.{last_some, last_front, on_err}
use Rattle.oc_run.proofs.lines.Reader.answer_last.Goals as goal

pub returns-in_err-answer-clause-front : goal.returns-in_err-answer-clause-front
returns-in_err-answer-clause-front g c =
    let some : c.args.self.now.line.items ≢ [] = λ is. grind (arith, nat_tests, is) in
    on_err c.from_residual.result _ (last_front g.H.Host.tells (g.H.Host.disk c.args.host.now) (g.H.Host.disk c.answer.new.host) _ _ c.args.self.now.one_line some c.in_err-answer.ensures.front)

pub returns-clause-goes : goal.returns-clause-goes
returns-clause-goes g c =
    let some : c.args.self.now.line.items ≢ [] = λ is. grind (arith, nat_tests, is) in
    last_some g.H.Host.tells (g.H.Host.disk c.args.host.now) (g.H.Host.disk c.answer.new.host) _ _ _ _ _ c.args.self.now.one_line some c.in_ok-answer.ensures.goes
