use Rattle.std.proofs.Common.{◌≡◌, true, drop, rules}
use Rattle.std.proofs.lemmas.Result.{IfOk-weaker}
use Rattle.oc_machine.specs.declared.token.Sign.TheVariants.{OpenBrace, CloseBrace}
use Rattle.oc_machine.specs.Parsers.{next_is, expect, up_to, enclosed}
use Rattle.oc_script.proofs.Readers.{reads_on, then_reads, expect_next}
use Rattle.oc_script.proofs.parser.lists.in_braces.Goals as goal

pub returns : goal.returns
returns g c =
    let next : next_is OpenBrace c.args.cursor.now ≡ true = search rules in
    let left : c.takes.new.self ≡ drop 1 c.args.cursor.now = search rules in
    let items = up_to CloseBrace g.I.Item.parser in
    let opened = then_reads (expect OpenBrace) (λ _. items) c.args.cursor.now c.takes.new.self tt (expect_next OpenBrace c.args.cursor.now c.takes.new.self next left) in
    IfOk-weaker c.up_to.result _ _ (λ r. reads_on (enclosed OpenBrace CloseBrace g.I.Item.parser) items c.args.cursor.now c.takes.new.self _ _ opened) c.up_to.ensures
