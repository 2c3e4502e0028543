-- The tokens of a line.
use Rattle.std.specs.Prelude.{ℕ, zero, suc, ◌+◌, ◌-◌, ◌*◌, ◌^◌, Bool, true, false, not, ◌&&◌, ◌||◌, ◌==◌, nat_lt, nat_le, List, [], ◌∷◌, take, Option, Some, None, if◌then◌else◌}
use Rattle.std.specs.List.{prefix_len}
use Rattle.std.specs.Char.{is_ascii_digit, is_ascii_alphabetic, is_ascii_alphanumeric}
use Rattle.std.specs.Str.{is_utf8}
use Rattle.oc_model.specs.Maps.{Text}
pub use Rattle.oc_model.specs.Conversions.{number}
use Rattle.oc_machine.specs.declared.token.Sign.{Sign}
use Rattle.oc_machine.specs.declared.token.Sign.TheVariants.{OpenBrace, CloseBrace, OpenParenthesis, CloseParenthesis, OpenBracket, CloseBracket, Colon, Comma, Dot, Equal, Less, AtMost, Greater, AtLeast}
use Rattle.oc_machine.specs.declared.token.Token.{Token}
use Rattle.oc_machine.specs.declared.token.Token.TheVariants as a
use Rattle.oc_model.specs.Opened.{utf8}

infixl 10 ◌>>=◌
-- what follows, of what was read, if anything was
abbrev pub ◌>>=◌ : {A B : Type 0} → Option A → (A → Option B) → Option B
None >>= f = None
(Some x) >>= f = f x

infixl 10 ◌>>◌
-- what follows, if the test holds
abbrev pub ◌>>◌ : {B : Type 0} → Bool → Option B → Option B
false >> r = None
true >> r = r

-- what is read, and how many bytes it takes
abbrev pub Read : Type 0 → Type 0
Read A = Option (A × ℕ)

-- ---- numbers and words

-- space, tab or CR
abbrev pub is_blank : ℕ → Bool
is_blank c = c == 32 || c == 9 || c == 13

-- a letter or `_`
abbrev pub begins_word : ℕ → Bool
begins_word c = is_ascii_alphabetic c || c == 95

-- a letter, a digit or `_`
abbrev pub in_word : ℕ → Bool
in_word c = is_ascii_alphanumeric c || c == 95

-- All digits at the front: 1 to 39 of them, for a number up to the limit.
unfoldable pub natural : ℕ → Text → Read ℕ
natural limit t =
    let n = prefix_len is_ascii_digit t in
    nat_lt 0 n && nat_le n 39 && nat_le (number (take n t)) limit >> Some (number (take n t), n)

-- All letters, digits and `_` at the front, at most 64.
unfoldable pub word : Text → Read Text
word t = let n = prefix_len in_word t in nat_le n 64 >> Some (take n t, n)

-- ---- texts

-- the byte that a letter behind `\` stands for
abbrev pub escaped : ℕ → Option ℕ
escaped c =
    if c == 34 then Some 34
    else if c == 92 then Some 92
    else if c == 110 then Some 10
    else if c == 114 then Some 13
    else if c == 116 then Some 9
    else None

-- the value of a hexadecimal digit of either case
abbrev pub hex_digit : ℕ → Option ℕ
hex_digit c =
    if is_ascii_digit c then Some (c - 48)
    else if nat_le 97 c && nat_le c 102 then Some (c - 87)
    else if nat_le 65 c && nat_le c 70 then Some (c - 55)
    else None

-- behind `\x`: two hexadecimal digits, of at most 7f
abbrev pub by_code : Text → Option ℕ
by_code (a ∷ b ∷ t) = hex_digit a >>= λ x. hex_digit b >>= λ y. nat_lt (16 * x + y) 128 >> Some (16 * x + y)
by_code _ = None

-- what follows a `\`
abbrev pub escape : Text → Read ℕ
escape [] = None
escape (c ∷ t) = if c == 120 then by_code t >>= (λ x. Some (x, 3)) else escaped c >>= (λ x. Some (x, 1))

-- One piece of a text: its byte, and how many bytes it takes beside its first. A byte from 128 on is a part of a character.
unfoldable pub piece : ℕ → Text → Read ℕ
piece c t = if c == 92 then escape t else (nat_le 32 c && not (c == 127) >> Some (c, 0))

-- The pieces behind the next k bytes up to the closing quote, and how many bytes all of that takes.
abbrev pub text_after : ℕ → Text → Read Text
text_after k [] = None
text_after (suc k) (c ∷ t) = text_after k t >>= λ r. Some (r.0, r.1 + 1)
text_after zero (c ∷ t) =
    elim (c == 34) [
      | true ↦ Some ([], 1)
      | false ↦ piece c t >>= λ p. text_after p.1 t >>= λ r. Some (p.0 ∷ r.0, r.1 + 1)
    ]

-- ---- tokens

-- `<` and `>` reach over a `=` behind them
abbrev pub with_equal : Sign → Sign → Text → Read Token
with_equal alone both [] = Some (a.Sign alone, 0)
with_equal alone both (c ∷ t) = if c == 61 then Some (a.Sign both, 1) else Some (a.Sign alone, 0)

-- the sign that a character is by itself
abbrev pub lone_sign : ℕ → Option Sign
lone_sign c =
    if c == 123 then Some OpenBrace
    else if c == 125 then Some CloseBrace
    else if c == 40 then Some OpenParenthesis
    else if c == 41 then Some CloseParenthesis
    else if c == 91 then Some OpenBracket
    else if c == 93 then Some CloseBracket
    else if c == 58 then Some Colon
    else if c == 44 then Some Comma
    else if c == 46 then Some Dot
    else if c == 61 then Some Equal
    else None

-- `<` and `>` with the `=` behind them if there is one, or a sign of one character
unfoldable pub sign : ℕ → Text → Read Token
sign c t =
    if c == 60 then with_equal Less AtMost t
    else if c == 62 then with_equal Greater AtLeast t
    else lone_sign c >>= λ s. Some (a.Sign s, 0)

-- The token that begins with this byte, and how many bytes it takes beside it.
unfoldable pub token : ℕ → Text → Read Token
unfolding natural word sign
token c t =
    if begins_word c then word (c ∷ t) >>= (λ p. Some (a.Word p.0, p.1 - 1))
    else if is_ascii_digit c then natural (2 ^ 127 - 1) (c ∷ t) >>= (λ p. Some (a.Nat p.0, p.1 - 1))
    else if c == 45 then natural (2 ^ 127) t >>= (λ p. Some (a.Minus p.0, p.1))
    else if c == 126 then natural (2 ^ 127 - 1) t >>= (λ p. Some (a.Num p.0, p.1))
    else if c == 34 then text_after 0 t >>= (λ p. Some (a.Text p.0, p.1))
    else sign c t

-- The tokens behind the next k bytes. Blanks may stand between them.
abbrev pub tokens_after : ℕ → Text → Option (List Token)
tokens_after k [] = Some []
tokens_after (suc k) (c ∷ t) = tokens_after k t
tokens_after zero (c ∷ t) =
    elim (is_blank c) [
      | true ↦ tokens_after 0 t
      | false ↦ token c t >>= λ p. tokens_after p.1 t >>= λ more. Some (p.0 ∷ more)
    ]

-- The tokens of a line, if it falls into tokens. A line that isn't UTF-8 doesn't: only a text has bytes from 128 on.
unfoldable pub tokens : Text → Option (List Token)
unfolding token piece utf8
tokens t = is_utf8 t >> tokens_after 0 t
