-- A fault of memory comes after the call. The answer that is kept is that of the call.
use Rattle.std.proofs.Common.{[], ◌∷◌, Vec, Global, sym, subst, ◌∙◌}
use Rattle.std.proofs.lemmas.Result.{err_from_is_err_and}
use Rattle.oc_model.specs.declared.reach.Node.{Node}
use Rattle.oc_reach.specs.Work.{answers_of, IsAsked}
use Rattle.oc_reach.proofs.Tables.{asked_now}
use Rattle.oc_reach.proofs.progress.ask.Goals as goal

pub returns-in_err-keep-clause-caused : goal.returns-in_err-keep-clause-caused
returns-in_err-keep-clause-caused g c =
    let p = err_from_is_err_and c.from_residual-in_err-keep.result c.from_residual-in_err-keep.ensures.1 in
    rw p.1 (g.met.P.Spread.fails _ _ _ _ (c.args.node ∷ []) [] c.in_ok-named.ensures.goes (g.met.P.Spread.memory _ p.0 p.2))

pub returns-clause-asked : goal.returns-clause-asked
returns-clause-asked g c =
    let w = g.P.Spread.walk c.args.spread.now in
    let t = c.args.answers.now.entries in
    subst (λ u. IsAsked w g.P.Spread.tells c.args.node (answers_of (λ (v : Vec Node Global). v.items) t) (answers_of (λ (v : Vec Node Global). v.items) u)) (sym c.in_ok-keep.ensures)
    (asked_now (λ (v : Vec Node Global). v.items) t w g.P.Spread.tells c.args.node c.in_ok-named.named (sym c.is_known.ensures ∙ c.if-is_known.false) c.in_ok-named.ensures.value c.in_ok-named.ensures.inside)
