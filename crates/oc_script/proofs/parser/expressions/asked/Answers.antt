use Rattle.std.proofs.Common.{◌≡◌, ◌∷◌, ap, rules}
use Rattle.std.proofs.lemmas.Result.{IfOk-weaker}
use Rattle.oc_machine.specs.declared.token.Token.TheVariants.{Word as a_word}
use Rattle.oc_machine.specs.ReadingExpressions.{asked, asked_by_word}
use Rattle.oc_script.proofs.Readers.{reads_on}
use Rattle.oc_script.proofs.parser.expressions.asked.Goals as goal

pub returns-in-Some-Word : goal.returns-in-Some-Word
returns-in-Some-Word c =
    let word = c.as_slice.result.now in
    let is : c.args.cursor.now ≡ a_word word ∷ c.next.new.self = search rules in
    IfOk-weaker c.asked_by_word.result _ _ (λ r. reads_on (asked c.args.path) (asked_by_word c.args.path word) c.args.cursor.now c.next.new.self _ r (ap (asked c.args.path) is)) c.asked_by_word.ensures
