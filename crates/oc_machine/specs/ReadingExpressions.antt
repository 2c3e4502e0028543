-- What tokens read as: paths, expressions and criteria.
use Rattle.std.specs.Prelude.{ℕ, zero, suc, pos, neg_ℤ, Bool, true, false, nat_le, List, [], ◌∷◌, length, codes, Option, Some, None, if◌then◌else◌}
use Rattle.oc_model.specs.declared.command.Literal.{Literal}
use Rattle.oc_model.specs.declared.command.Literal.TheVariants as literal
use Rattle.oc_model.specs.declared.command.CompareOp.{CompareOp}
use Rattle.oc_model.specs.declared.command.CompareOp.TheVariants as op
use Rattle.oc_model.specs.declared.command.TextOp.{TextOp}
use Rattle.oc_model.specs.declared.command.TextOp.TheVariants as text_op
use Rattle.oc_model.specs.declared.command.ExprText.{ExprText}
use Rattle.oc_model.specs.declared.command.ExprText.TheVariants as expr
use Rattle.oc_model.specs.declared.command.CritText.{CritText}
use Rattle.oc_model.specs.Maps.{Text, same}
use Rattle.oc_machine.specs.declared.token.Sign.{Sign}
use Rattle.oc_machine.specs.declared.token.Sign.TheVariants.{OpenParenthesis, CloseParenthesis, Dot, Equal, Less, AtMost, Greater, AtLeast}
use Rattle.oc_machine.specs.declared.token.Token.{Token}
use Rattle.oc_machine.specs.declared.token.Token.TheVariants.{Word as a_word, Nat, Minus, Text as a_text, Sign as a_sign}
use Rattle.oc_machine.specs.Lexing.{◌>>=◌, ◌>>◌}
use Rattle.oc_machine.specs.Parsers.{Parser, ◌>=>◌, pure, fails, next_is, next_says, expect, token_as, word_as, name, if_next, name_or_number, separated_by}

-- ---- paths

-- 1 to 16 names with dots between
unfoldable pub path : Parser (List Text)
path ts = separated_by (next_is Dot) name ts >>= λ r. nat_le (length r.0) 16 >> Some r

-- ascending or descending
abbrev pub direction_named : Text → Option Bool
direction_named t =
    if same t (codes "asc") then Some true
    else if same t (codes "desc") then Some false
    else None

-- a path and its direction
unfoldable pub criterion : Parser CritText
unfolding path
criterion = path >=> λ p. word_as direction_named >=> λ a. pure (record { path = p; ascending = a })

-- ---- what a path is asked

-- the literals that are words
abbrev pub literal_named : Text → Option Literal
literal_named t =
    if same t (codes "null") then Some literal.Null
    else if same t (codes "true") then Some (literal.Bool true)
    else if same t (codes "false") then Some (literal.Bool false)
    else None

-- what one token compares with
abbrev pub literal_of : Token → Option Literal
literal_of (a_word t) = literal_named t
literal_of (Nat n) = Some (literal.Int (pos n))
literal_of (Minus n) = Some (literal.Int (neg_ℤ (pos n)))
literal_of (a_text t) = Some (literal.Text t)
literal_of _ = None

-- the token of a literal
abbrev pub a_literal : Parser Literal
a_literal = token_as literal_of

-- the text of a token in quotes
abbrev pub text_of : Token → Option Text
text_of (a_text t) = Some t
text_of _ = None

-- a token in quotes
abbrev pub quoted_text : Parser Text
quoted_text = token_as text_of

-- the comparison of a sign
abbrev pub compare_op : Sign → Option CompareOp
compare_op Equal = Some op.Equal
compare_op Less = Some op.Less
compare_op AtMost = Some op.AtMost
compare_op Greater = Some op.Greater
compare_op AtLeast = Some op.AtLeast
compare_op _ = None

-- the literal behind a comparison
abbrev pub compared : List Text → CompareOp → Parser ExprText
compared p o = a_literal >=> λ l. pure (expr.Compare p o l)

-- the text behind a test on texts
abbrev pub matched : List Text → TextOp → Parser ExprText
matched p o = quoted_text >=> λ t. pure (expr.Match p o t)

-- what stands behind a path and such a word
abbrev pub asked_by_word : List Text → Text → Parser ExprText
asked_by_word p w =
    if same w (codes "like") then matched p text_op.Like
    else if same w (codes "contains") then matched p text_op.Contains
    else if same w (codes "starts") then matched p text_op.Starts
    else if same w (codes "ends") then matched p text_op.Ends
    else if same w (codes "is") then name_or_number (λ n. pure (expr.IsName p n)) (λ k. pure (expr.IsNumber p k))
    else if same w (codes "example") then (name >=> λ n. pure (expr.Example p n))
    else fails

-- what stands behind a path
abbrev pub asked : List Text → Parser ExprText
asked p (a_sign s ∷ ts) = compare_op s >>= λ o. compared p o ts
asked p (a_word w ∷ ts) = asked_by_word p w ts
asked p _ = None

-- a path, and what is asked of its values
unfoldable pub atom : Parser ExprText
unfolding path
atom = path >=> asked

-- ---- expressions

-- one is what it is, more are joined
abbrev pub joined : (List ExprText → ExprText) → List ExprText → ExprText
joined join (e ∷ []) = e
joined join es = join es

-- an expression in parentheses, or what a path is asked
unfoldable pub operand : Parser ExprText → Parser ExprText
unfolding atom
operand inner = if_next (next_is OpenParenthesis) (inner >=> λ e. expect CloseParenthesis >=> λ _. pure e) atom

-- an operand, with `not` before it or without
unfoldable pub factor : Parser ExprText → Parser ExprText
unfolding operand
factor inner = if_next (next_says (codes "not")) (operand inner >=> λ e. pure (expr.Not e)) (operand inner)

-- factors with `and` between
unfoldable pub term : Parser ExprText → Parser ExprText
unfolding factor
term inner = separated_by (next_says (codes "and")) (factor inner) >=> λ es. pure (joined expr.And es)

-- terms with `or` between
unfoldable pub terms : Parser ExprText → Parser ExprText
unfolding term
terms inner = separated_by (next_says (codes "or")) (term inner) >=> λ es. pure (joined expr.Or es)

-- an expression whose parentheses stand within one another fewer times than the number
abbrev pub expr_within : ℕ → Parser ExprText
expr_within zero ts = None
expr_within (suc n) ts = terms (expr_within n) ts

-- Each parenthesis is a token, so the number of tokens is enough.
unfoldable pub an_expr : Parser ExprText
unfolding terms
an_expr ts = expr_within (length ts) ts
