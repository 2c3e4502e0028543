use Rattle.std.proofs.Common.{rules, ◌++◌, List, ℕ, drop, subst, arith, length-drop}
use Rattle.std.proofs.lemmas.List.{drop-drop}
use Rattle.oc_run.specs.Rest.{Advances, Fronts}
use Rattle.oc_run.proofs.LineByLine.{tail}
use Rattle.oc_run.proofs.Parts.{advances_then, advances_front, on_err}
use Rattle.oc_run.proofs.lines.Reader.feed.Goals as goal

pub returns-in_err-at-clause-front : goal.returns-in_err-at-clause-front
returns-in_err-at-clause-front g c =
    let front : Fronts g.H.Host.tells (g.H.Host.disk c.loop-at.host) (g.H.Host.disk c.feed_line.new.host) c.loop-at.self.store (λ u. c.loop-at.self.line.items ++ (drop c.loop-at.at c.args.bytes.now ++ u)) =
    subst (λ (t : List ℕ). Fronts g.H.Host.tells (g.H.Host.disk c.loop-at.host) (g.H.Host.disk c.feed_line.new.host) c.loop-at.self.store (λ u. c.loop-at.self.line.items ++ (t ++ u))) (tail c.args.bytes.now c.loop-at.at) c.in_err-at.ensures.front in
    on_err c.from_residual.result _ (advances_front g.H.Host.tells c.loop-at.invariant.goes front)

pub loop-at-preserved : goal.loop-at-preserved
loop-at-preserved g c =
    let here = c.loop-at.at in
    let part : Advances g.H.Host.tells (g.H.Host.disk c.loop-at.host) (g.H.Host.disk c.feed_line.new.host) c.loop-at.self.store (λ u. c.loop-at.self.line.items ++ (drop here c.args.bytes.now ++ u)) c.loop-at.self.refusals c.feed_line.new.self.store (λ u. c.feed_line.new.self.line.items ++ (drop c.in_ok-at.field-0 (drop here c.args.bytes.now) ++ u)) c.feed_line.new.self.refusals =
    subst
    (λ (t : List ℕ). Advances g.H.Host.tells (g.H.Host.disk c.loop-at.host) (g.H.Host.disk c.feed_line.new.host) c.loop-at.self.store (λ u. c.loop-at.self.line.items ++ (t ++ u)) c.loop-at.self.refusals c.feed_line.new.self.store (λ u. c.feed_line.new.self.line.items ++ (drop c.in_ok-at.field-0 t ++ u)) c.feed_line.new.self.refusals)
    (tail c.args.bytes.now here)
    c.in_ok-at.ensures.goes in
    record {
      within = omega (arith, c.in_ok-at.ensures.within, length-drop here c.args.bytes.now);
      goes =
          subst
          (λ (t : List ℕ). Advances g.H.Host.tells (g.H.Host.disk c.args.host.now) (g.H.Host.disk c.feed_line.new.host) c.args.self.now.store (λ u. c.args.self.now.line.items ++ (c.args.bytes.now ++ u)) c.args.self.now.refusals c.feed_line.new.self.store (λ u. c.feed_line.new.self.line.items ++ (t ++ u)) c.feed_line.new.self.refusals)
          (drop-drop c.in_ok-at.field-0 here c.args.bytes.now)
          (advances_then g.H.Host.tells c.loop-at.invariant.goes part);
      faults = search rules;
      taken = search rules;
    }
