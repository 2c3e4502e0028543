use Rattle.std.proofs.Common.{◌≡◌, true, Some, drop, codes, rules}
use Rattle.oc_model.specs.declared.command.Command.TheVariants.{Convert}
use Rattle.oc_model.specs.Maps.{Text}
use Rattle.oc_machine.specs.declared.token.Sign.TheVariants.{Dot}
use Rattle.oc_machine.specs.Parsers.{◌>=>◌, pure, next_is, expect_word, name}
use Rattle.oc_machine.specs.ReadingValues.{a_kind}
use Rattle.oc_machine.specs.Reading.{convert_line}
use Rattle.oc_script.proofs.Readers.{reads_on, dotted}
use Rattle.oc_script.proofs.parser.schema_lines.convert_line.Goals as goal

pub returns : goal.returns
unfolding convert_line
returns c =
    let class : name c.args.cursor.now ≡ Some (c.in-Some.class, c.name.new.cursor) = rw c.in-Some.is at c.in_ok-class.ensures in
    let next : next_is Dot c.name.new.cursor ≡ true = search rules in
    let left : c.takes.new.self ≡ drop 1 c.name.new.cursor = search rules in
    let field : name c.takes.new.self ≡ Some (c.in-Some-2.field, c.name-2.new.cursor) = rw c.in-Some-2.is at c.in_ok-field.ensures in
    let rest = λ (x y : Text). expect_word (codes "from") >=> λ _. a_kind >=> λ k. pure (Convert x y k) in
    reads_on convert_line (rest c.in-Some.class c.in-Some-2.field) c.args.cursor.now c.name-2.new.cursor _ _ (dotted rest c.args.cursor.now c.name.new.cursor c.takes.new.self c.name-2.new.cursor c.in-Some.class c.in-Some-2.field class next left field) c.convert_from.ensures
