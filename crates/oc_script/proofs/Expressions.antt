-- Parentheses within one another.
use Rattle.std.proofs.Common.{◌≡◌, ℕ, ◌-◌, ◌<◌, suc, zero, List, ap, arith}
use Rattle.oc_machine.specs.declared.token.Token.{Token}
use Rattle.oc_machine.specs.ReadingExpressions.{expr_within, terms}

-- Within a parenthesis, one fewer may stand within one another.
pub within : (n : ℕ) (ts : List Token) → 0 < n → expr_within n ts ≡ terms (expr_within (n - 1)) ts
within (suc n) ts lt =
    let fewer : n ≡ suc n - 1 = omega arith in
    ap (λ m. terms (expr_within m) ts) fewer
within zero ts lt = absurd (omega arith)
