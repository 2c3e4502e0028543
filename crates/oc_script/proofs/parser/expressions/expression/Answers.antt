use Rattle.std.proofs.Common.{◌≡◌, ◌-◌, ap, ◌∙◌, arith, sym}
use Rattle.std.proofs.lemmas.Result.{IfOk-weaker}
use Rattle.oc_machine.specs.ReadingExpressions.{expr_within, terms, an_expr}
use Rattle.oc_script.proofs.Expressions.{within}
use Rattle.oc_script.proofs.Readers.{reads_on}
use Rattle.oc_script.proofs.parser.expressions.expression.Goals as goal

pub returns : goal.returns
unfolding an_expr
returns c =
    let here = c.args.cursor.now in
    let deep : an_expr here ≡ terms (expr_within (c.len-depth.result - 1)) here = ap (λ n. expr_within n here) (sym c.len-depth.ensures) ∙ within c.len-depth.result here (omega arith) in
    IfOk-weaker c.terms.result _ _ (λ r. reads_on an_expr (terms (expr_within (c.len-depth.result - 1))) here here _ r deep) c.terms.ensures
