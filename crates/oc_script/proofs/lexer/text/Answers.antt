use Rattle.std.proofs.Common.{◌≡◌, ◌+◌, ◌==◌, false, Some, length, length-drop, get_or, drop, sym, refl, ap, ◌∙◌, arith, rules}
use Rattle.oc_machine.specs.Lexing.{piece}
use Rattle.oc_script.proofs.Shifts.{text_goes_on}
use Rattle.oc_script.proofs.lexer.text.Goals as goal

pub loop-at-preserved : goal.loop-at-preserved
loop-at-preserved c =
    let t = c.args.text.now in
    let at = c.loop-at.at in
    let quote : (get_or t at 0 == 34) ≡ false = search rules in
    let is : piece (get_or t at 0) (drop (at + 1) t) ≡ Some (c.in-Some.byte, c.in-Some.more) = ap (piece (get_or t at 0)) (sym c.tail.ensures) ∙ sym c.in-Some.ensures.is in
    record {
      within = omega (arith, c.in-Some.ensures.within, ap length c.tail.ensures, length-drop (at + 1) t);
      rest = rw c.in_ok-push.ensures.items (sym (text_goes_on c.loop-at.bytes.items at c.in-Some.byte c.in-Some.more (at + (1 + c.in-Some.more)) t (omega arith) quote is refl) ∙ c.loop-at.invariant.rest);
    }
