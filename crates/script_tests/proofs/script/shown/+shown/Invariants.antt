use Rattle.std.proofs.Common.{◌+◌, ◌*◌}
use Rattle.script_tests.proofs.script.shown.+shown.Given as goal

abbrev pub decreases-put_expr : goal.decreases-put_expr
decreases-put_expr l = 2 * l.depth

abbrev pub decreases-put_exprs : goal.decreases-put_exprs
decreases-put_exprs l = 2 * l.depth + 1
