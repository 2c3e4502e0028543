use Rattle.std.proofs.Common.{rules, ◌-◌, take, arith}
use Rattle.std.proofs.lemmas.Result.{err_from_is_err_and}
use Rattle.oc_run.proofs.Parts.{stops, fed, fed_front, fed_all, same_then, on_err}
use Rattle.oc_run.proofs.Taking.{taken_more, took_script, took_err}
use Rattle.oc_run.proofs.script.read_script.Goals as goal

pub returns-in_err-n-clause-front : goal.returns-in_err-n-clause-front
returns-in_err-n-clause-front g c = on_err c.from_residual.result _ (λ told. stops g.H.Host.tells (c.loop-n.invariant.goes told))

pub returns-then-n-eq0-clause-goes : goal.returns-then-n-eq0-clause-goes
returns-then-n-eq0-clause-goes g c = λ told. fed_all g.H.Host.tells (c.loop-n.invariant.goes told) (c.in_ok-n.ensures.end told c.if-n-eq0.true)

pub returns-then-n-left-clause-front : goal.returns-then-n-left-clause-front
returns-then-n-left-clause-front g c = λ told. stops g.H.Host.tells (c.loop-n.invariant.goes told)

pub loop-n-preserved : goal.loop-n-preserved
loop-n-preserved g c =
    record {
      some = omega (arith, c.in_ok-n.ensures.at_most);
      within = omega arith;
      room = omega arith;
      goes = λ told. fed g.H.Host.tells c.loop-n.reader.line.items c.feed.new.self.line.items (g.S.Source.left c.loop-n.script) (take c.in_ok-n.n c.read_piece.new.buffer) (g.S.Source.left c.read_piece.new.script) (c.loop-n.invariant.goes told) (c.in_ok-n.ensures.piece told) c.in_ok-feed.ensures.goes;
      file = λ told. same_then (c.loop-n.invariant.file told) (c.in_ok-feed.ensures.goes.host told);
      host_faults = search rules;
      host_taken = search rules;
      faults = search rules;
      taken = taken_more _ _ _ _ _ c.loop-n.invariant.within c.if-n-eq0.false c.in_ok-n.ensures.at_most c.loop-n.invariant.taken c.in_ok-n.ensures.took;
    }

pub returns-in_err-feed-clause-front : goal.returns-in_err-feed-clause-front
returns-in_err-feed-clause-front g c =
    on_err c.from_residual-in_err-feed.result _ (λ told. fed_front g.H.Host.tells c.loop-n.reader.line.items (g.S.Source.left c.loop-n.script) (take c.in_ok-n.n c.read_piece.new.buffer) (g.S.Source.left c.read_piece.new.script) (c.loop-n.invariant.goes told) (c.in_ok-n.ensures.piece told) c.in_err-feed.ensures.front)

pub returns-in_err-feed-clause-taken : goal.returns-in_err-feed-clause-taken
returns-in_err-feed-clause-taken g c =
    let p = err_from_is_err_and c.from_residual-in_err-feed.result c.from_residual-in_err-feed.ensures.1 in
    rw (p.1, p.2)
    (took_err c.in_err-feed.field-0.0 _ _ _ _ c.in_err-feed.ensures.cause
    (took_script (c.loop-n.left - c.in_ok-n.n) _ _ (omega (arith, c.in_ok-n.ensures.at_most))
    (taken_more _ _ _ _ _ c.loop-n.invariant.within c.if-n-eq0.false c.in_ok-n.ensures.at_most c.loop-n.invariant.taken c.in_ok-n.ensures.took)))
