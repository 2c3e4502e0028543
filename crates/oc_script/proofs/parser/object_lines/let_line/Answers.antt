use Rattle.std.proofs.Common.{◌≡◌, true, Some, drop, rules}
use Rattle.std.proofs.lemmas.Result.{IfOk-weaker}
use Rattle.oc_model.specs.declared.command.Command.TheVariants.{Let}
use Rattle.oc_model.specs.Maps.{Text}
use Rattle.oc_machine.specs.declared.token.Sign.TheVariants.{Dot, Equal}
use Rattle.oc_machine.specs.Parsers.{◌>=>◌, pure, next_is, expect, name}
use Rattle.oc_machine.specs.ReadingValues.{a_value}
use Rattle.oc_machine.specs.Reading.{let_line}
use Rattle.oc_script.proofs.Readers.{reads_on, dotted}
use Rattle.oc_script.proofs.parser.object_lines.let_line.Goals as goal

pub returns : goal.returns
unfolding let_line
returns c =
    let bound : name c.args.cursor.now ≡ Some (c.in-Some.bound, c.name.new.cursor) = rw c.in-Some.is at c.in_ok-bound.ensures in
    let next : next_is Dot c.name.new.cursor ≡ true = search rules in
    let left : c.takes.new.self ≡ drop 1 c.name.new.cursor = search rules in
    let field : name c.takes.new.self ≡ Some (c.in-Some-2.field, c.name-2.new.cursor) = rw c.in-Some-2.is at c.in_ok-field.ensures in
    let rest = λ (x y : Text). expect Equal >=> λ _. a_value >=> λ v. pure (Let x y v) in
    let here = dotted rest c.args.cursor.now c.name.new.cursor c.takes.new.self c.name-2.new.cursor c.in-Some.bound c.in-Some-2.field bound next left field in
    IfOk-weaker c.let_value.result _ _ (λ r. reads_on let_line (rest c.in-Some.bound c.in-Some-2.field) c.args.cursor.now c.name-2.new.cursor _ r here) c.let_value.ensures
