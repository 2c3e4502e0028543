use Rattle.std.proofs.Common.{◌≡◌, ◌+◌, false, Some, length, length-drop, get_or, drop, sym, refl, ap, ◌∙◌, arith, rules}
use Rattle.oc_machine.specs.Lexing.{is_blank}
use Rattle.oc_script.specs.Lexed.{token_at}
use Rattle.oc_script.proofs.Shifts.{tokens_go_on, AreWithin-push}
use Rattle.oc_script.proofs.lexer.tokens_from.Goals as goal

pub loop-at-preserved : goal.loop-at-preserved
loop-at-preserved c =
    let t = c.args.line.now in
    let at = c.loop-at.at in
    let blank : is_blank (get_or t at 0) ≡ false = search rules in
    let is : token_at (drop at t) ≡ Some (c.in-Some.token, c.in-Some.more) = ap token_at (sym c.tail.ensures) ∙ sym c.in_ok-token.ensures.is ∙ c.in-Some.is in
    let within = rw c.in-Some.is at c.in_ok-token.ensures.within in
    let number = rw c.in-Some.is at c.in_ok-token.ensures.number in
    let more = tokens_go_on c.loop-at.tokens.items c.in-Some.token at c.in-Some.more (at + (1 + c.in-Some.more)) t (omega arith) blank is refl in
    record {
      within = omega (arith, within, ap length c.tail.ensures, length-drop at t);
      numbers = rw c.in_ok-push.ensures.items (AreWithin-push c.loop-at.tokens.items c.in-Some.token c.loop-at.invariant.numbers number);
      rest = rw c.in_ok-push.ensures.items (sym more ∙ c.loop-at.invariant.rest);
    }
