-- The grammar of paths, expressions and criteria, from each to its tokens.
use Rattle.std.specs.Prelude.{◌≡◌, ◌≤◌, ℕ, zero, suc, true, false, List, [], ◌∷◌, ◌++◌, length, codes, ◌⊎◌}
use Rattle.oc_model.specs.declared.command.Literal.{Literal}
use Rattle.oc_model.specs.declared.command.Literal.TheVariants as literal
use Rattle.oc_model.specs.declared.command.CompareOp.{CompareOp}
use Rattle.oc_model.specs.declared.command.CompareOp.TheVariants as op
use Rattle.oc_model.specs.declared.command.TextOp.{TextOp}
use Rattle.oc_model.specs.declared.command.TextOp.TheVariants as text_op
use Rattle.oc_model.specs.declared.command.ExprText.{ExprText}
use Rattle.oc_model.specs.declared.command.ExprText.TheVariants.{Not, And, Or, Compare, Match, IsName as NameIs, IsNumber as NumberIs, Example}
use Rattle.oc_model.specs.declared.command.CritText.{CritText}
use Rattle.oc_model.specs.Maps.{Text}
use Rattle.oc_machine.specs.declared.token.Sign.{Sign}
use Rattle.oc_machine.specs.declared.token.Sign.TheVariants.{OpenParenthesis, CloseParenthesis, Comma, Dot, Equal, Less, AtMost, Greater, AtLeast}
use Rattle.oc_machine.specs.declared.token.Token.TheVariants.{Word as a_word, Num, Text as a_text, Sign as a_sign}
use Rattle.oc_machine.specs.GrammarValues.{Tokens, Spelling, SpellsName, Parted, SpellsInt}

-- ---- paths

-- 1 to 16 names, with dots between
abbrev pub SpellsPath : List Text → Tokens → Type 0
SpellsPath p ts = (1 ≤ length p) × ((length p ≤ 16) × Parted (a_sign Dot) SpellsName p ts)

-- the word for ascending or descending
abbrev pub direction_word : CritText → Text
direction_word c = elim c.ascending [ true ↦ codes "asc" | false ↦ codes "desc" ]

-- a path and its direction
abbrev pub SpellsCriterion : CritText → Tokens → Type 0
SpellsCriterion c ts = (us : Tokens) × (SpellsPath c.path us × (ts ≡ us ++ a_word (direction_word c) ∷ []))

-- none, or one and more behind `order`, with commas between
abbrev pub SpellsCriteria : List CritText → Tokens → Type 0
SpellsCriteria [] ts = ts ≡ []
SpellsCriteria (c ∷ cs) ts = (us : Tokens) × (Parted (a_sign Comma) SpellsCriterion (c ∷ cs) us × (ts ≡ a_word (codes "order") ∷ us))

-- ---- what a path is asked

-- a literal, by its one token or, for a number below 0, by two
abbrev pub SpellsLiteral : Literal → Tokens → Type 0
SpellsLiteral literal.Null ts = ts ≡ a_word (codes "null") ∷ []
SpellsLiteral (literal.Bool true) ts = ts ≡ a_word (codes "true") ∷ []
SpellsLiteral (literal.Bool false) ts = ts ≡ a_word (codes "false") ∷ []
SpellsLiteral (literal.Int n) ts = SpellsInt n ts
SpellsLiteral (literal.Text t) ts = ts ≡ a_text t ∷ []

-- the sign of a comparison
abbrev pub compare_sign : CompareOp → Sign
compare_sign op.Equal = Equal
compare_sign op.Less = Less
compare_sign op.AtMost = AtMost
compare_sign op.Greater = Greater
compare_sign op.AtLeast = AtLeast

-- the word of a test on a text
abbrev pub text_word : TextOp → Text
text_word text_op.Like = codes "like"
text_word text_op.Contains = codes "contains"
text_word text_op.Starts = codes "starts"
text_word text_op.Ends = codes "ends"

-- a path, and what it is asked
abbrev pub SpellsAtom : ExprText → Tokens → Type 0
SpellsAtom (Compare p o l) ts = (us vs : Tokens) × (SpellsPath p us × (SpellsLiteral l vs × (ts ≡ us ++ a_sign (compare_sign o) ∷ vs)))
SpellsAtom (Match p o t) ts = (us : Tokens) × (SpellsPath p us × (ts ≡ us ++ a_word (text_word o) ∷ a_text t ∷ []))
SpellsAtom (NameIs p n) ts = (us vs : Tokens) × (SpellsPath p us × (SpellsName n vs × (ts ≡ us ++ a_word (codes "is") ∷ vs)))
SpellsAtom (NumberIs p k) ts = (us : Tokens) × (SpellsPath p us × (ts ≡ us ++ a_word (codes "is") ∷ Num k ∷ []))
SpellsAtom (Example p n) ts = (us vs : Tokens) × (SpellsPath p us × (SpellsName n vs × (ts ≡ us ++ a_word (codes "example") ∷ vs)))
SpellsAtom _ ts = ⊥

-- ---- expressions

-- an atom, or an expression in parentheses
abbrev pub SpellsOperand : Spelling ExprText → ExprText → Tokens → Type 0
SpellsOperand Inner e ts = SpellsAtom e ts ⊎ ((us : Tokens) × (Inner e us × (ts ≡ a_sign OpenParenthesis ∷ (us ++ a_sign CloseParenthesis ∷ []))))

-- an operand, or the denial of one behind `not`
abbrev pub SpellsFactor : Spelling ExprText → ExprText → Tokens → Type 0
SpellsFactor Inner e ts =
    SpellsOperand Inner e ts ⊎ ((d : ExprText) × ((us : Tokens) × (SpellsOperand Inner d us × ((e ≡ Not d) × (ts ≡ a_word (codes "not") ∷ us)))))

-- one part, or two and more with this word between, joined
abbrev pub SpellsJoined : Text → (List ExprText → ExprText) → Spelling ExprText → ExprText → Tokens → Type 0
SpellsJoined word join Part e ts = Part e ts ⊎ ((es : List ExprText) × ((2 ≤ length es) × ((e ≡ join es) × Parted (a_word word) Part es ts)))

-- a factor, or two and more with `and` between them
abbrev pub SpellsTerm : Spelling ExprText → ExprText → Tokens → Type 0
SpellsTerm Inner e ts = SpellsJoined (codes "and") And (SpellsFactor Inner) e ts

-- a term, or two and more with `or` between them
abbrev pub SpellsTerms : Spelling ExprText → ExprText → Tokens → Type 0
SpellsTerms Inner e ts = SpellsJoined (codes "or") Or (SpellsTerm Inner) e ts

-- an expression whose parentheses stand within one another fewer times than the number
abbrev pub SpellsWithin : ℕ → ExprText → Tokens → Type 0
SpellsWithin zero e ts = ⊥
SpellsWithin (suc n) e ts = SpellsTerms (SpellsWithin n) e ts

-- an expression, however deep its parentheses are
abbrev pub SpellsExpr : ExprText → Tokens → Type 0
SpellsExpr e ts = (n : ℕ) × SpellsWithin n e ts
