-- What is read from a place of a line on.
use Rattle.std.specs.Prelude.{ℕ, ◌+◌, ◌-◌, ◌*◌, ◌<◌, ◌≤◌, ◌^◌, List, [], ◌∷◌, ◌++◌, Option, Some, None, fold, if◌then◌else◌, ◌==◌}
use Rattle.std.specs.Char.{is_ascii_digit}
use Rattle.oc_model.specs.Maps.{Text}
use Rattle.oc_machine.specs.declared.token.Token.{Token}
use Rattle.oc_machine.specs.declared.token.Token.TheVariants as a
use Rattle.oc_machine.specs.Lexing.{Read, natural, sign, token, ◌>>=◌}

-- the number that digits spell behind those that spell n
abbrev pub number_after : ℕ → Text → ℕ
number_after n digits = fold (λ n d. 10 * n + (d - 48)) n digits

-- The token that these bytes begin with, and how many bytes it takes beside its first.
abbrev pub token_at : Text → Read Token
token_at [] = None
token_at (c ∷ t) = token c t

-- The number or the sign that these bytes begin with, and how many bytes it takes beside its first.
abbrev pub plain_at : Text → Read Token
plain_at [] = None
plain_at (c ∷ t) =
    if is_ascii_digit c then natural (2 ^ 127 - 1) (c ∷ t) >>= (λ p. Some (a.Nat p.0, p.1 - 1))
    else if c == 45 then natural (2 ^ 127) t >>= (λ p. Some (a.Minus p.0, p.1))
    else if c == 126 then natural (2 ^ 127 - 1) t >>= (λ p. Some (a.Num p.0, p.1))
    else sign c t

-- a text that begins with these bytes, which n bytes spelled
abbrev pub behind : Text → ℕ → Read Text → Read Text
behind bytes n None = None
behind bytes n (Some r) = Some (bytes ++ r.0, r.1 + n)

-- these, and what was read behind them, if anything was
abbrev pub joined : {A : Type 0} → List A → Option (List A) → Option (List A)
joined xs None = None
joined xs (Some ys) = Some (xs ++ ys)

-- a whole number of a token is in its range
abbrev pub IsWithin : Token → Type 0
IsWithin (a.Nat n) = n < 2 ^ 127
IsWithin (a.Minus n) = n ≤ 2 ^ 127
IsWithin _ = Unit {0}

-- so are those of all tokens
abbrev pub AreWithin : List Token → Type 0
AreWithin [] = Unit {0}
AreWithin (t ∷ ts) = IsWithin t × AreWithin ts
