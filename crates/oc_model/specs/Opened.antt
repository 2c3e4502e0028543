-- Names of the toolchain's inside that a definition has to open so that it computes. They stand here alone: a definition opens one of the words below.
use Rattle.std.specs.Fmt.{digits}
use Rattle.std.specs.Str.{is_utf8, chars}
use lib.Utf8.{encode}
use Rattle.oc_model.specs.declared.query.Expr.TheBlock.{hidden-the_row-Expr-0, hidden-the_row-Expr-1}
use Rattle.oc_model.specs.declared.command.ExprText.TheBlock.{hidden-the_row-ExprText-0, hidden-the_row-ExprText-1}
use denote.Hole.Carrier.{hidden}

-- the digits of a number
unfoldable pub decimals : Unit {0}
unfolding digits
decimals = tt

-- whether bytes are UTF-8
unfoldable pub utf8 : Unit {0}
unfolding is_utf8 chars encode
utf8 = tt

-- the parts of an expression
unfoldable pub expr_rows : Unit {0}
unfolding hidden-the_row-Expr-0 hidden-the_row-Expr-1 hidden
expr_rows = tt

-- the parts of an expression as it is written
unfoldable pub expr_text_rows : Unit {0}
unfolding hidden-the_row-ExprText-0 hidden-the_row-ExprText-1 hidden
expr_text_rows = tt
