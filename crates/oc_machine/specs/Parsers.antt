-- Parsers: what the first tokens of a line spell.
use Rattle.std.specs.Prelude.{ℕ, zero, suc, Bool, true, false, not, List, [], ◌∷◌, length, drop, Option, Some, None}
use Rattle.std.specs.List.{list_any}
use Rattle.oc_model.specs.Maps.{Text, same}
use Rattle.oc_model.specs.SchemaRules.{reserved_words}
use Rattle.oc_machine.specs.declared.token.Sign.{Sign}
use Rattle.oc_machine.specs.declared.token.Sign.TheVariants.{OpenBrace, CloseBrace, OpenParenthesis, CloseParenthesis, OpenBracket, CloseBracket, Colon, Comma, Dot, Equal, Less, AtMost, Greater, AtLeast}
use Rattle.oc_machine.specs.declared.token.Token.{Token}
use Rattle.oc_machine.specs.declared.token.Token.TheVariants.{Word as a_word, Nat, Num, Sign as a_sign}
use Rattle.oc_machine.specs.Lexing.{◌>>=◌, ◌>>◌}

-- what the first tokens spell, and the tokens behind them
abbrev pub Parser : Type 0 → Type 0
Parser A = List Token → Option (A × List Token)

infixl 9 ◌>=>◌
-- one after another
abbrev pub ◌>=>◌ : {A B : Type 0} → Parser A → (A → Parser B) → Parser B
p >=> f = λ ts. p ts >>= λ r. f r.0 r.1

-- the value itself, with no token read
abbrev pub pure : {A : Type 0} → A → Parser A
pure a ts = Some (a, ts)

-- no tokens are right
abbrev pub fails : {A : Type 0} → Parser A
fails ts = None

-- ---- which token comes next

-- the same sign
abbrev pub same_sign : Sign → Sign → Bool
same_sign OpenBrace OpenBrace = true
same_sign CloseBrace CloseBrace = true
same_sign OpenParenthesis OpenParenthesis = true
same_sign CloseParenthesis CloseParenthesis = true
same_sign OpenBracket OpenBracket = true
same_sign CloseBracket CloseBracket = true
same_sign Colon Colon = true
same_sign Comma Comma = true
same_sign Dot Dot = true
same_sign Equal Equal = true
same_sign Less Less = true
same_sign AtMost AtMost = true
same_sign Greater Greater = true
same_sign AtLeast AtLeast = true
same_sign _ _ = false

-- the token is this sign
abbrev pub is_sign : Sign → Token → Bool
is_sign s (a_sign r) = same_sign s r
is_sign s _ = false

-- the token is this word
abbrev pub is_word : Text → Token → Bool
is_word w (a_word t) = same t w
is_word w _ = false

-- the next token is this sign
abbrev pub next_is : Sign → List Token → Bool
next_is s [] = false
next_is s (t ∷ ts) = is_sign s t

-- the next token is this word
abbrev pub next_says : Text → List Token → Bool
next_says w [] = false
next_says w (t ∷ ts) = is_word w t

-- ---- one token

-- this sign
abbrev pub expect : Sign → Parser (Unit {0})
expect s [] = None
expect s (t ∷ ts) = is_sign s t >> Some (tt, ts)

-- this word
abbrev pub expect_word : Text → Parser (Unit {0})
expect_word w [] = None
expect_word w (t ∷ ts) = is_word w t >> Some (tt, ts)

-- what one token stands for
abbrev pub token_as : {A : Type 0} → (Token → Option A) → Parser A
token_as f [] = None
token_as f (t ∷ ts) = f t >>= λ a. Some (a, ts)

-- what one word stands for
abbrev pub word_as : {A : Type 0} → (Text → Option A) → Parser A
word_as f (a_word t ∷ ts) = f t >>= λ a. Some (a, ts)
word_as f _ = None

-- a word that is no name
abbrev pub is_reserved : Text → Bool
is_reserved t = list_any (same t) reserved_words

-- a word that isn't reserved
abbrev pub name : Parser Text
name (a_word t ∷ ts) = not (is_reserved t) >> Some (t, ts)
name _ = None

-- a whole number without a sign
abbrev pub nat : Parser ℕ
nat (Nat n ∷ ts) = Some (n, ts)
nat _ = None

-- ---- choices

-- If the tokens begin so: the first parser, behind the first token. Else the second.
abbrev pub if_next : {A : Type 0} → (List Token → Bool) → Parser A → Parser A → Parser A
if_next begins p q ts = elim (begins ts) [ true ↦ p (drop 1 ts) | false ↦ q ts ]

-- if the tokens begin so, what is read behind the first one
abbrev pub optional : {A : Type 0} → (List Token → Bool) → Parser A → Parser (Option A)
optional begins p = if_next begins (p >=> λ a. pure (Some a)) (pure None)

-- a number, if one comes next
abbrev pub optional_nat : Parser (Option ℕ)
optional_nat (Nat n ∷ ts) = Some (Some n, ts)
optional_nat ts = Some (None, ts)

-- a name or the number of an object, and what follows the one or the other
abbrev pub name_or_number : {A : Type 0} → (Text → Parser A) → (ℕ → Parser A) → Parser A
name_or_number named numbered (a_word t ∷ ts) = not (is_reserved t) >> named t ts
name_or_number named numbered (Num n ∷ ts) = numbered n ts
name_or_number named numbered _ = None

-- ---- lists

-- More items, as long as the tokens begin so: each is read behind the first token. The number bounds them.
abbrev pub more_of : {A : Type 0} → (List Token → Bool) → ℕ → Parser A → Parser (List A)
more_of begins zero p ts = Some ([], ts)
more_of begins (suc n) p ts =
    elim (begins ts) [
      | true ↦ p (drop 1 ts) >>= λ r. more_of begins n p r.1 >>= λ more. Some (r.0 ∷ more.0, more.1)
      | false ↦ Some ([], ts)
    ]

-- one item, and more behind such tokens
abbrev pub separated_by : {A : Type 0} → (List Token → Bool) → Parser A → Parser (List A)
separated_by begins p ts = p ts >>= λ r. more_of begins (length ts) p r.1 >>= λ more. Some (r.0 ∷ more.0, more.1)

-- one item, and more behind commas
abbrev pub separated : {A : Type 0} → Parser A → Parser (List A)
separated p = separated_by (next_is Comma) p

-- items with commas between, perhaps none, and a closing sign
abbrev pub up_to : {A : Type 0} → Sign → Parser A → Parser (List A)
up_to right p = if_next (next_is right) (pure []) (separated p >=> λ items. expect right >=> λ _. pure items)

-- items between an opening and a closing sign, perhaps none
abbrev pub enclosed : {A : Type 0} → Sign → Sign → Parser A → Parser (List A)
enclosed left right p = expect left >=> λ _. up_to right p

-- nothing may follow
abbrev pub whole : {A : Type 0} → Option (A × List Token) → Option A
whole None = None
whole (Some (a, [])) = Some a
whole (Some (a, t ∷ ts)) = None
