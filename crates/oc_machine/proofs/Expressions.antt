-- Expressions: what is spelled is read, and what is read is spelled.
use Rattle.std.proofs.Common.{◌≡◌, inl, inr, ℕ, zero, suc, ◌+◌, ◌≤◌, false, List, [], ◌∷◌, ◌++◌, length, drop, refl, sym, ap, ◌∙◌, subst, append_assoc, arith}
use Rattle.std.specs.Prelude.{codes, Option, Some}
use Rattle.std.proofs.lemmas.List.{append-nil, length-append}
use Rattle.oc_model.specs.declared.command.ExprText.{ExprText}
use Rattle.oc_model.specs.declared.command.ExprText.TheVariants.{Not, And, Or}
use Rattle.oc_model.specs.Maps.{Text}
use Rattle.oc_machine.specs.declared.token.Sign.TheVariants.{OpenParenthesis, CloseParenthesis}
use Rattle.oc_machine.specs.declared.token.Token.{Token}
use Rattle.oc_machine.specs.declared.token.Token.TheVariants.{Word as a_word, Sign as a_sign}
use Rattle.oc_machine.specs.Lexing.{◌>>=◌}
use Rattle.oc_machine.specs.Parsers.{Parser, next_is, next_says, separated_by, expect}
use Rattle.oc_machine.specs.ReadingExpressions.{atom, joined, operand, factor, term, terms, expr_within, an_expr}
use Rattle.oc_machine.specs.GrammarValues.{Tokens, Spelling, Behind, Parted}
use Rattle.oc_machine.specs.GrammarExpressions.{SpellsOperand, SpellsFactor, SpellsJoined, SpellsTerm, SpellsTerms, SpellsWithin, SpellsExpr}
use Rattle.oc_machine.proofs.Combinators.{no_word, ReadsBefore, Any, Fronts, ReadsOnly, pure_gives, then_gives, expect_gives, choice_gives, sign_tells, word_tells, otherwise}
use Rattle.oc_machine.proofs.Lists.{Listed, list_read, list_only}
use Rattle.oc_machine.proofs.Atoms.{atom_read, atom_only, atom_begins}

-- ---- what ends a term and an expression

abbrev pub TermEnds : Tokens → Type 0
TermEnds ts = (next_says (codes "and") ts ≡ false) × Any ts

abbrev pub ExprEnds : Tokens → Type 0
ExprEnds ts = (next_says (codes "or") ts ≡ false) × TermEnds ts

-- ---- operands and factors

module _ (inner : Parser ExprText) (Inner : Spelling ExprText) where
  abbrev shut : ExprText × Tokens → Option (ExprText × Tokens)
  shut r = expect CloseParenthesis r.1 >>= λ c. Some (r.0, c.1)

  abbrev inside : Parser ExprText
  inside ts = inner ts >>= shut

  operand_read : ReadsBefore ExprEnds inner Inner → ReadsBefore Any (operand inner) (SpellsOperand Inner)
  unfolding operand
  operand_read each e ts rest any (inl s) =
      let b = atom_begins e ts s in
      otherwise {B = Option (ExprText × Tokens)} (next_is OpenParenthesis (ts ++ rest)) (inside (drop 1 (ts ++ rest))) (atom (ts ++ rest))
      (ap (λ (t : Tokens). next_is OpenParenthesis (t ++ rest)) b.1.1.1)
      ∙ atom_read e ts rest tt s
  operand_read each e ts rest any (inr (us, (s, is))) =
      ap (λ (t : Tokens). operand inner (t ++ rest)) is
      ∙ ap inside (append_assoc us (a_sign CloseParenthesis ∷ []) rest)
      ∙ ap (λ (o : Option (ExprText × Tokens)). o >>= shut) (each e us (a_sign CloseParenthesis ∷ rest) (refl, (refl, tt)) s)

  operand_only : ReadsOnly inner Inner → ReadsOnly (operand inner) (SpellsOperand Inner)
  unfolding operand
  operand_only only =
      choice_gives (next_is OpenParenthesis) (a_sign OpenParenthesis) _ _ _ (sign_tells OpenParenthesis)
      (then_gives inner Inner _ (λ ts. Fronts (SpellsOperand Inner) (a_sign OpenParenthesis ∷ ts)) only λ e us s.
      expect_gives CloseParenthesis _ (λ ts. Fronts (SpellsOperand Inner) (a_sign OpenParenthesis ∷ (us ++ ts))) (
      pure_gives e _ λ ts.
      (a_sign OpenParenthesis ∷ (us ++ a_sign CloseParenthesis ∷ []), (inr (us, (s, refl)), ap (λ (t : Tokens). a_sign OpenParenthesis ∷ t) (sym (append_assoc us (a_sign CloseParenthesis ∷ []) ts))))))
      (λ ts x rest h. let a = atom_only ts x rest h in (a.0, (inl a.1.0, a.1.1)))

  -- no operand begins with `not`
  operand_begins : (e : ExprText) (ts rest : Tokens) → SpellsOperand Inner e ts → next_says (codes "not") (ts ++ rest) ≡ false
  operand_begins e ts rest (inl s) =
      let b = atom_begins e ts s in
      ap (λ (t : Tokens). next_says (codes "not") (t ++ rest)) b.1.1.1 ∙ no_word b.0 (codes "not") b.1.1.0 refl
  operand_begins e ts rest (inr (us, (s, is))) = ap (λ (t : Tokens). next_says (codes "not") (t ++ rest)) is

  abbrev denied : Parser ExprText
  denied ts = operand inner ts >>= λ r. Some (Not r.0, r.1)

  factor_read : ReadsBefore ExprEnds inner Inner → ReadsBefore Any (factor inner) (SpellsFactor Inner)
  unfolding factor
  factor_read each e ts rest any (inl s) =
      otherwise {B = Option (ExprText × Tokens)} (next_says (codes "not") (ts ++ rest)) (denied (drop 1 (ts ++ rest))) (operand inner (ts ++ rest)) (operand_begins e ts rest s)
      ∙ operand_read each e ts rest tt s
  factor_read each e ts rest any (inr (d, (us, (s, (is, at))))) =
      ap (λ (t : Tokens). factor inner (t ++ rest)) at
      ∙ ap (λ (o : Option (ExprText × Tokens)). o >>= λ r. Some (Not r.0, r.1)) (operand_read each d us rest tt s)
      ∙ ap (λ (z : ExprText). Some (z, rest)) (sym is)

  factor_only : ReadsOnly inner Inner → ReadsOnly (factor inner) (SpellsFactor Inner)
  unfolding factor
  factor_only only =
      choice_gives (next_says (codes "not")) (a_word (codes "not")) _ _ _ (word_tells (codes "not"))
      (then_gives (operand inner) (SpellsOperand Inner) _ (λ ts. Fronts (SpellsFactor Inner) (a_word (codes "not") ∷ ts)) (operand_only only) λ e us s.
      pure_gives (Not e) _ λ ts. (a_word (codes "not") ∷ us, (inr (e, (us, (s, (refl, refl)))), refl)))
      (λ ts x rest h. let a = operand_only only ts x rest h in (a.0, (inl a.1.0, a.1.1)))

  operand_some : (e : ExprText) (ts : Tokens) → SpellsOperand Inner e ts → 1 ≤ length ts
  operand_some e ts (inl s) = let b = atom_begins e ts s in omega (arith, ap (length {A = Token}) b.1.1.1)
  operand_some e ts (inr (us, (s, is))) = omega (arith, ap (length {A = Token}) is)

  factor_some : (e : ExprText) (ts : Tokens) → SpellsFactor Inner e ts → 1 ≤ length ts
  factor_some e ts (inl s) = operand_some e ts s
  factor_some e ts (inr (d, (us, (s, (is, at))))) = omega (arith, ap (length {A = Token}) at)

-- ---- parts with a word between

module _ (word : Text) (join : List ExprText → ExprText) (part : Parser ExprText) (Part : Spelling ExprText) where
  abbrev joining : Parser ExprText
  joining ts = separated_by (next_says word) part ts >>= λ r. Some (joined join r.0, r.1)

  joined_is : (es : List ExprText) → 2 ≤ length es → joined join es ≡ join es
  joined_is [] two = absurd (omega arith)
  joined_is (e ∷ []) two = absurd (omega arith)
  joined_is (e ∷ d ∷ es) two = refl

  joined_read : (Stop : Tokens → Type 0) → ReadsBefore Stop part Part → ((ts : Tokens) → Stop (a_word word ∷ ts))
      → ReadsBefore (λ ts. (next_says word ts ≡ false) × Stop ts) joining (SpellsJoined word join Part)
  joined_read Stop each between e ts rest stop (inl s) =
      ap (λ (o : Option (List ExprText × Tokens)). o >>= λ r. Some (joined join r.0, r.1))
      (list_read (next_says word) (a_word word) (word_tells word) part Part Stop each between (e ∷ []) ts rest stop (omega arith, (ts, [], (s, (refl, sym (append-nil ts))))))
  joined_read Stop each between e ts rest stop (inr (es, (two, (is, parted)))) =
      ap (λ (o : Option (List ExprText × Tokens)). o >>= λ r. Some (joined join r.0, r.1))
      (list_read (next_says word) (a_word word) (word_tells word) part Part Stop each between es ts rest stop (omega arith, parted))
      ∙ ap (λ (z : ExprText). Some (z, rest)) (joined_is es two ∙ sym is)

  as_joined : (es : List ExprText) (ts : Tokens) → Listed (a_word word) Part es ts → SpellsJoined word join Part (joined join es) ts
  as_joined [] ts l = absurd (omega (arith, l.0))
  as_joined (e ∷ []) ts (some, (us, vs, (s, (none, is)))) =
      inl (subst (λ (t : Tokens). Part e t) (sym (is ∙ ap (λ (t : Tokens). us ++ t) none ∙ append-nil us)) s)
  as_joined (e ∷ d ∷ es) ts l = inr (e ∷ d ∷ es, (omega arith, (refl, l.1)))

  joined_only : ReadsOnly part Part → ReadsOnly joining (SpellsJoined word join Part)
  joined_only only =
      then_gives (separated_by (next_says word) part) (Listed (a_word word) Part) _ _ (list_only (next_says word) (a_word word) (word_tells word) part Part only) λ es us l.
      pure_gives (joined join es) _ λ ts. (us, (as_joined es us l, refl))

  joined_some : ((e : ExprText) (ts : Tokens) → Part e ts → 1 ≤ length ts) → (e : ExprText) (ts : Tokens) → SpellsJoined word join Part e ts → 1 ≤ length ts
  joined_some some e ts (inl s) = some e ts s
  joined_some some e ts (inr ([], (two, r))) = absurd (omega arith)
  joined_some some e ts (inr (d ∷ es, (two, (is, (us, vs, (s, (b, at))))))) =
      omega (arith, some d us s, length-append us vs, ap (length {A = Token}) at)

-- ---- whole expressions

module _ (inner : Parser ExprText) (Inner : Spelling ExprText) where
  term_read : ReadsBefore ExprEnds inner Inner → ReadsBefore TermEnds (term inner) (SpellsTerm Inner)
  unfolding term
  term_read each = joined_read (codes "and") And (factor inner) (SpellsFactor Inner) Any (factor_read inner Inner each) (λ ts. tt)

  terms_read : ReadsBefore ExprEnds inner Inner → ReadsBefore ExprEnds (terms inner) (SpellsTerms Inner)
  unfolding terms
  terms_read each = joined_read (codes "or") Or (term inner) (SpellsTerm Inner) TermEnds (term_read each) (λ ts. (refl, tt))

  term_only : ReadsOnly inner Inner → ReadsOnly (term inner) (SpellsTerm Inner)
  unfolding term
  term_only only = joined_only (codes "and") And (factor inner) (SpellsFactor Inner) (factor_only inner Inner only)

  terms_only : ReadsOnly inner Inner → ReadsOnly (terms inner) (SpellsTerms Inner)
  unfolding terms
  terms_only only = joined_only (codes "or") Or (term inner) (SpellsTerm Inner) (term_only only)

  terms_some : (e : ExprText) (ts : Tokens) → SpellsTerms Inner e ts → 1 ≤ length ts
  terms_some =
      joined_some (codes "or") Or (term inner) (SpellsTerm Inner) (joined_some (codes "and") And (factor inner) (SpellsFactor Inner) (factor_some inner Inner))

within_read : (n : ℕ) → ReadsBefore ExprEnds (expr_within n) (SpellsWithin n)
within_read zero e us rest stop s = absurd s
within_read (suc n) e us rest stop s = terms_read (expr_within n) (SpellsWithin n) (within_read n) e us rest stop s

within_only : (n : ℕ) → ReadsOnly (expr_within n) (SpellsWithin n)
within_only zero ts x rest h = absurd (cc)
within_only (suc n) ts x rest h = terms_only (expr_within n) (SpellsWithin n) (within_only n) ts x rest h

-- ---- the number of tokens is enough

-- what so few tokens spell in the one way, they spell in the other
abbrev Passes : ℕ → Spelling ExprText → Spelling ExprText → Type 0
Passes n S R = (e : ExprText) (ts : Tokens) → length ts ≤ n → S e ts → R e ts

operand_passes : (n : ℕ) (S R : Spelling ExprText) → Passes n S R → Passes (suc n) (SpellsOperand S) (SpellsOperand R)
operand_passes n S R pass e ts le (inl s) = inl s
operand_passes n S R pass e ts le (inr (us, (s, is))) =
    inr (us, (pass e us (omega (arith, ap (length {A = Token}) is, length-append us (a_sign CloseParenthesis ∷ []))) s, is))

factor_passes : (n : ℕ) (S R : Spelling ExprText) → Passes n S R → Passes (suc n) (SpellsFactor S) (SpellsFactor R)
factor_passes n S R pass e ts le (inl s) = inl (operand_passes n S R pass e ts le s)
factor_passes n S R pass e ts le (inr (d, (us, (s, (is, at))))) =
    inr (d, (us, (operand_passes n S R pass d us (omega (arith, ap (length {A = Token}) at)) s, (is, at))))

behind_passes : (n : ℕ) (t : Token) (S R : Spelling ExprText) → Passes n S R → (es : List ExprText) (ts : Tokens) → length ts ≤ n → Behind t S es ts → Behind t R es ts
behind_passes n t S R pass [] ts le b = b
behind_passes n t S R pass (e ∷ es) ts le (us, vs, (s, (b, is))) =
    let long : length ts ≡ suc (length us + length vs) = omega (arith, ap (length {A = Token}) is, length-append us vs) in
    (us, vs, (pass e us (omega arith) s, (behind_passes n t S R pass es vs (omega arith) b, is)))

parted_passes : (n : ℕ) (t : Token) (S R : Spelling ExprText) → Passes n S R → (es : List ExprText) (ts : Tokens) → length ts ≤ n → Parted t S es ts → Parted t R es ts
parted_passes n t S R pass [] ts le b = b
parted_passes n t S R pass (e ∷ es) ts le (us, vs, (s, (b, is))) =
    let long : length ts ≡ length us + length vs = omega (arith, ap (length {A = Token}) is, length-append us vs) in
    (us, vs, (pass e us (omega arith) s, (behind_passes n t S R pass es vs (omega arith) b, is)))

joined_passes : (n : ℕ) (word : Text) (join : List ExprText → ExprText) (S R : Spelling ExprText) → Passes n S R → Passes n (SpellsJoined word join S) (SpellsJoined word join R)
joined_passes n word join S R pass e ts le (inl s) = inl (pass e ts le s)
joined_passes n word join S R pass e ts le (inr (es, (two, (is, parted)))) =
    inr (es, (two, (is, parted_passes n (a_word word) S R pass es ts le parted)))

within_passes : (n m : ℕ) → Passes m (SpellsWithin n) (SpellsWithin m)
within_passes zero m e ts le s = absurd s
within_passes (suc n) zero e ts le s = absurd (omega (arith, terms_some (expr_within n) (SpellsWithin n) e ts s))
within_passes (suc n) (suc m) e ts le s =
    joined_passes (suc m) (codes "or") Or (SpellsTerm (SpellsWithin n)) (SpellsTerm (SpellsWithin m))
    (joined_passes (suc m) (codes "and") And (SpellsFactor (SpellsWithin n)) (SpellsFactor (SpellsWithin m))
    (factor_passes m (SpellsWithin n) (SpellsWithin m) (within_passes n m)))
    e ts le s

pub expr_read : ReadsBefore ExprEnds an_expr SpellsExpr
unfolding an_expr
expr_read e us rest stop (n, s) =
    let m = length (us ++ rest) in
    within_read m e us rest stop (within_passes n m e us (omega (arith, length-append us rest)) s)

pub expr_only : ReadsOnly an_expr SpellsExpr
unfolding an_expr
expr_only ts x rest h = let a = within_only (length ts) ts x rest h in (a.0, ((length ts, a.1.0), a.1.1))
