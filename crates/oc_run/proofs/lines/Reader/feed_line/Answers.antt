use Rattle.std.proofs.Common.{rules, ◌≡◌, ◌+◌, ◌-◌, ◌++◌, ◌∷◌, length, take, drop, true, arith}
use Rattle.oc_run.specs.Rest.{is_in_one_line}
use Rattle.oc_run.proofs.Parts.{took_all, took_line, took_line_front, on_err}
use Rattle.oc_run.proofs.lines.Reader.feed_line.Goals as goal

pub returns-then-end-bytes-clause-goes : goal.returns-then-end-bytes-clause-goes
returns-then-end-bytes-clause-goes g c =
    let end = c.line_len-end.result in
    let piece : is_in_one_line (take end c.args.bytes.now) ≡ true = search rules in
    let line : c.append.new.line.items ≡ c.args.self.now.line.items ++ take (65536 - length c.args.self.now.line.items) (take end c.args.bytes.now) = search rules in
    let whole : end ≡ length c.args.bytes.now = search rules in
    took_all g.H.Host.tells (g.H.Host.disk c.args.host.now) _ _ c.args.bytes.now c.append.new.line.items end _ c.args.self.now.one_line piece line whole

pub returns-in_err-answer-clause-front : goal.returns-in_err-answer-clause-front
returns-in_err-answer-clause-front g c =
    let end = c.line_len-end.result in
    let piece : is_in_one_line (take end c.args.bytes.now) ≡ true = search rules in
    let line : c.append.new.line.items ≡ c.args.self.now.line.items ++ take (65536 - length c.args.self.now.line.items) (take end c.args.bytes.now) = search rules in
    let lf : drop end c.args.bytes.now ≡ 10 ∷ drop (end + 1) c.args.bytes.now = c.line_len-end.ensures.ended (omega (arith, c.line_len-end.ensures.within)) in
    on_err c.from_residual-in_err-answer.result _ (took_line_front g.H.Host.tells (g.H.Host.disk c.args.host.now) (g.H.Host.disk c.answer.new.host) _ _ c.args.bytes.now c.append.new.line.items end c.args.self.now.refusals c.args.self.now.one_line piece line lf c.in_err-answer.ensures.front)

pub returns-clause-goes : goal.returns-clause-goes
returns-clause-goes g c =
    let end = c.line_len-end.result in
    let piece : is_in_one_line (take end c.args.bytes.now) ≡ true = search rules in
    let line : c.append.new.line.items ≡ c.args.self.now.line.items ++ take (65536 - length c.args.self.now.line.items) (take end c.args.bytes.now) = search rules in
    let lf : drop end c.args.bytes.now ≡ 10 ∷ drop (end + 1) c.args.bytes.now = c.line_len-end.ensures.ended (omega (arith, c.line_len-end.ensures.within)) in
    took_line g.H.Host.tells (g.H.Host.disk c.args.host.now) (g.H.Host.disk c.answer.new.host) _ _ _ c.args.bytes.now c.append.new.line.items c.answer.new.self.line.items end _ _ c.args.self.now.one_line piece line lf c.in_ok-answer.ensures.goes c.in_ok-answer.ensures.line
