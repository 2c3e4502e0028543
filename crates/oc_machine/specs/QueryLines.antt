-- The lines that ask: query and example.
use Rattle.std.specs.Prelude.{ℕ, Bool, false, ◌&&◌, List, [], ◌∷◌, filter_map, Option, Some, None, Ok, is_some}
use Rattle.std.specs.List.{list_any}
use Rattle.oc_model.specs.declared.value.Atom.TheVariants as atom
use Rattle.oc_model.specs.declared.query.Op.{Op}
use Rattle.oc_model.specs.declared.query.Op.TheVariants as op
use Rattle.oc_model.specs.declared.query.Expr.{Expr}
use Rattle.oc_model.specs.declared.query.Expr.TheVariants as expr
use Rattle.oc_model.specs.declared.query.Criterion.{Criterion}
use Rattle.oc_model.specs.declared.command.Literal.{Literal}
use Rattle.oc_model.specs.declared.command.Literal.TheVariants as literal
use Rattle.oc_model.specs.declared.command.CompareOp.{CompareOp}
use Rattle.oc_model.specs.declared.command.CompareOp.TheVariants as compare
use Rattle.oc_model.specs.declared.command.TextOp.{TextOp}
use Rattle.oc_model.specs.declared.command.TextOp.TheVariants as text
use Rattle.oc_model.specs.declared.command.ExprText.{ExprText, Row_of-ExprText, end_of-ExprText, more_of-ExprText, Not', And', Or', Compare, Match, IsName, IsNumber, Example}
use Rattle.oc_model.specs.declared.command.CritText.{CritText}
use Rattle.oc_model.specs.declared.answer.Word.TheVariants as word
use Rattle.oc_model.specs.declared.answer.Answer.TheVariants as answer
use Rattle.oc_model.specs.Maps.{Text}
use Rattle.oc_model.specs.Schemas.{Schema, class_named, field_named, is_sub}
use Rattle.oc_model.specs.SchemaRules.{numbered}
use Rattle.oc_model.specs.Queries.{answer as answer_of}
use Rattle.oc_model.specs.ByExample.{example}
use Rattle.oc_model.specs.States.{State}
use Rattle.oc_machine.specs.Outcomes.{Outcome, Checked, ◌>>=◌, ◌>>◌, unless, or_refuse}
use Rattle.oc_machine.specs.Memory.{live_named}
use Rattle.oc_machine.specs.Showing.{stored_line}
use Rattle.oc_model.specs.Opened.{expr_text_rows}

-- ---- fields

-- the class or one below it has a current field of this name
unfoldable pub is_field_below : Schema → ℕ → Text → Bool
unfolding field_named is_sub
is_field_below s c name = list_any (λ e. is_sub s e.0 c && is_some (field_named s e.0 name)) (numbered s)

-- the first name of a path is such a field
abbrev pub first_is_field : Schema → ℕ → List Text → Bool
first_is_field s c [] = false
first_is_field s c (name ∷ path) = is_field_below s c name

-- refused unless the path begins at a field of the class
abbrev pub path_checked : State → ℕ → List Text → Checked (Unit {0})
path_checked m c path = unless (first_is_field m.session.schema c path) word.Field

-- ---- constraints

-- the test that a sign names
abbrev pub op_of : CompareOp → Op
op_of compare.Equal = op.Equal
op_of compare.Less = op.Less
op_of compare.AtMost = op.AtMost
op_of compare.Greater = op.Greater
op_of compare.AtLeast = op.AtLeast

-- the test on texts that a word names
abbrev pub text_op_of : TextOp → Op
text_op_of text.Like = op.Like
text_op_of text.Contains = op.Contains
text_op_of text.Starts = op.Starts
text_op_of text.Ends = op.Ends

-- A comparison with a literal. Null is looked for by `=` alone.
abbrev pub comparison : List Text → CompareOp → Literal → Expr
comparison path compare.Equal literal.Null = expr.Null path
comparison path o literal.Null = expr.Test path (op_of o) (atom.Text None)
comparison path o (literal.Bool b) = expr.Test path (op_of o) (atom.Bool b)
comparison path o (literal.Int n) = expr.Test path (op_of o) (atom.Int n)
comparison path o (literal.Text t) = expr.Test path (op_of o) (atom.Text (Some t))

-- the number of the object that a name is bound to
abbrev pub number_named : State → Text → Checked ℕ
number_named m name = live_named m name >>= λ o. or_refuse (o.1).number word.Live

-- the example of a name: the class and the query of its object
abbrev pub example_named : State → Text → Checked (ℕ × Expr)
example_named m name = live_named m name >>= λ o. example m o.0 >>= λ e. Ok ((o.1).class, e)

-- What an expression asks for, or its first refusal from the left to the right. What is behind a `Boxed` or in `Items` is a row, of one part or of many.
unfoldable mutual
  unfolding is_field_below example expr_text_rows

  pub resolved : State → ℕ → ExprText → Checked Expr
  resolved m c (Not' p e) = resolved_row m c e >>= λ es. Ok (expr.Not (expr.And es))
  resolved m c (And' p es) = resolved_row m c es >>= λ all. Ok (expr.And all)
  resolved m c (Or' p es) = resolved_row m c es >>= λ all. Ok (expr.Or all)
  resolved m c (Compare path o l) = path_checked m c path >> Ok (comparison path o l)
  resolved m c (Match path o t) = path_checked m c path >> Ok (expr.Test path (text_op_of o) (atom.Text (Some t)))
  resolved m c (IsName path name) = path_checked m c path >> (number_named m name >>= λ n. Ok (expr.Is path n))
  resolved m c (IsNumber path n) = path_checked m c path >> Ok (expr.Is path n)
  resolved m c (Example path name) = path_checked m c path >> (example_named m name >>= λ e. Ok (expr.Inside path e.0 e.1))

  -- the parts of the row
  pub resolved_row : State → ℕ → {k : _} → Row_of-ExprText k → Checked (List Expr)
  resolved_row m c end_of-ExprText = Ok []
  resolved_row m c (more_of-ExprText e es) = resolved m c e >>= λ f. resolved_row m c es >>= λ fs. Ok (f ∷ fs)

-- without an expression every object of the class
abbrev pub filter_of : State → ℕ → Option ExprText → Checked Expr
filter_of m c None = Ok expr.All
filter_of m c (Some e) = resolved m c e

-- ---- criteria

-- what one order says, or its refusal
abbrev pub criterion_of : State → ℕ → CritText → Checked Criterion
criterion_of m c t = path_checked m c t.path >> Ok (record { path = t.path; ascending = t.ascending })

-- what each order says, or the first refusal
abbrev pub criteria_of : State → ℕ → List CritText → Checked (List Criterion)
criteria_of m c [] = Ok []
criteria_of m c (t ∷ ts) = criterion_of m c t >>= λ k. criteria_of m c ts >>= λ ks. Ok (k ∷ ks)

-- ---- steps

-- what a query line asks for
pub record Asked : Type 0 where
  pub class : ℕ
  pub expr : Expr
  pub criteria : List Criterion

-- what a `query` asks, or its first refusal
unfoldable pub asked_by_query : State → Text → Option ExprText → List CritText → Checked Asked
unfolding resolved is_field_below
asked_by_query m class filter criteria =
    or_refuse (class_named m.session.schema class) word.Class >>= λ c.
    filter_of m c filter >>= λ e.
    criteria_of m c criteria >>= λ ks.
    Ok (record { class = c; expr = e; criteria = ks })

-- what an `example` asks, or its refusal
unfoldable pub asked_by_example : State → Text → Checked Asked
unfolding example
asked_by_example m name = example_named m name >>= λ e. Ok (record { class = e.0; expr = e.1; criteria = [] })

-- the objects of the session that are asked for, in their order
unfoldable pub found_lines : State → Asked → Outcome
unfolding answer_of stored_line
found_lines m q = (m, answer.Found (filter_map (stored_line m.session) (answer_of m.session q.class q.expr q.criteria)))

-- the objects found by a query
unfoldable pub query_step : State → Text → Option ExprText → List CritText → Checked Outcome
unfolding asked_by_query found_lines
query_step m class filter criteria = asked_by_query m class filter criteria >>= λ q. Ok (found_lines m q)

-- the objects found by an example
unfoldable pub example_step : State → Text → Checked Outcome
unfolding asked_by_example found_lines
example_step m name = asked_by_example m name >>= λ q. Ok (found_lines m q)
