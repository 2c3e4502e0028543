use Rattle.std.proofs.Common.{rules}
use Rattle.std.proofs.lemmas.Result.{IfOk-weaker}
use Rattle.oc_model.specs.declared.command.ExprText.TheVariants as expr
use Rattle.oc_machine.specs.Parsers.{pure, name_or_number}
use Rattle.oc_machine.specs.ReadingExpressions.{asked_by_word}
use Rattle.oc_script.proofs.Readers.{reads_on, asked_is}
use Rattle.oc_script.proofs.parser.expressions.asked_by_word.Goals as goal

pub returns-then-is_same-5 : goal.returns-then-is_same-5
returns-then-is_same-5 c =
    let path = c.args.path in
    let here = c.args.cursor.now in
    let is = asked_is path c.args.word.now here (search rules) (search rules) (search rules) (search rules) (search rules) in
    IfOk-weaker c.is_object.result _ _ (λ r. reads_on (asked_by_word path c.args.word.now) (name_or_number (λ n. pure (expr.IsName path n)) (λ k. pure (expr.IsNumber path k))) here here _ r is) c.is_object.ensures
