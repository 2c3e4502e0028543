use Rattle.std.proofs.Common.{◌≡◌, ◌+◌, ◌*◌, ◌-◌, [], ◌∷◌, codes}
use Rattle.oc_machine.specs.Parsers.{more_of, next_says}
use Rattle.oc_machine.specs.ReadingExpressions.{factor, term, expr_within}
use Rattle.oc_script.specs.Parsed.{after}
use Rattle.oc_script.proofs.parser.expressions.+expression.Given as goal

abbrev pub decreases-operand : goal.decreases-operand
decreases-operand l = 6 * l.depth

abbrev pub decreases-factor : goal.decreases-factor
decreases-factor l = 6 * l.depth + 1

abbrev pub decreases-factors_after : goal.decreases-factors_after
decreases-factors_after l = 6 * l.depth + 2

abbrev pub decreases-term : goal.decreases-term
decreases-term l = 6 * l.depth + 3

abbrev pub decreases-terms_after : goal.decreases-terms_after
decreases-terms_after l = 6 * l.depth + 4

abbrev pub decreases-terms : goal.decreases-terms
decreases-terms l = 6 * l.depth + 5

abbrev pub invariant-factors_after-loop : goal.invariant-factors_after-loop
invariant-factors_after-loop l =
    after l.factors.items (more_of (next_says (codes "and")) (l.most - l.counter) (factor (expr_within l.depth)) l.cursor) ≡ after (l.fn.first ∷ []) (more_of (next_says (codes "and")) l.most (factor (expr_within l.depth)) l.fn.cursor)

abbrev pub invariant-terms_after-loop : goal.invariant-terms_after-loop
invariant-terms_after-loop l =
    after l.terms.items (more_of (next_says (codes "or")) (l.most - l.counter) (term (expr_within l.depth)) l.cursor) ≡ after (l.fn.first ∷ []) (more_of (next_says (codes "or")) l.most (term (expr_within l.depth)) l.fn.cursor)
