-- What tokens read as: kinds, values, and fields with one or the other.
use Rattle.std.specs.Prelude.{pos, neg_ℤ, true, false, not, codes, Option, Some, None, if◌then◌else◌}
use Rattle.oc_model.specs.declared.value.Base.{Base}
use Rattle.oc_model.specs.declared.value.Base.TheVariants as base
use Rattle.oc_model.specs.declared.value.Kind.{Kind}
use Rattle.oc_model.specs.declared.value.Kind.TheVariants as kind
use Rattle.oc_model.specs.declared.command.Single.{Single}
use Rattle.oc_model.specs.declared.command.Single.TheVariants as single
use Rattle.oc_model.specs.declared.command.ValueText.{ValueText}
use Rattle.oc_model.specs.declared.command.ValueText.TheVariants as valued
use Rattle.oc_model.specs.declared.command.Given.{Given}
use Rattle.oc_model.specs.declared.command.Decl.{Decl}
use Rattle.oc_model.specs.Maps.{Text, same}
use Rattle.oc_machine.specs.declared.token.Sign.TheVariants.{OpenBracket, CloseBracket, Colon}
use Rattle.oc_machine.specs.declared.token.Token.{Token}
use Rattle.oc_machine.specs.declared.token.Token.TheVariants.{Word as a_word, Nat, Minus, Num, Text as a_text, Sign as a_sign}
use Rattle.oc_machine.specs.Lexing.{◌>>◌}
use Rattle.oc_machine.specs.Parsers.{Parser, ◌>=>◌, pure, next_is, expect, token_as, word_as, is_reserved, name, if_next, up_to}

-- ---- kinds

-- the base of a word
abbrev pub base_named : Text → Option Base
base_named t =
    if same t (codes "bool") then Some base.Bool
    else if same t (codes "i8") then Some base.I8
    else if same t (codes "i16") then Some base.I16
    else if same t (codes "i32") then Some base.I32
    else if same t (codes "i64") then Some base.I64
    else if same t (codes "u64") then Some base.U64
    else if same t (codes "i128") then Some base.I128
    else if same t (codes "text") then Some base.Text
    else if same t (codes "ref") then Some base.Ref
    else None

-- the word of a base
abbrev pub a_base : Parser Base
a_base = word_as base_named

-- the kind of one value, or in brackets that of an array
unfoldable pub a_kind : Parser Kind
a_kind = if_next (next_is OpenBracket) (a_base >=> λ b. expect CloseBracket >=> λ _. pure (kind.Many b)) (a_base >=> λ b. pure (kind.One b))

-- a name, a colon, a kind
unfoldable pub decl : Parser Decl
unfolding a_kind
decl = name >=> λ n. expect Colon >=> λ _. a_kind >=> λ k. pure (record { name = n; kind = k })

-- ---- values

-- null, a truth value, or the object of a name
abbrev pub single_named : Text → Option Single
single_named t =
    if same t (codes "null") then Some single.Null
    else if same t (codes "true") then Some (single.Bool true)
    else if same t (codes "false") then Some (single.Bool false)
    else (not (is_reserved t) >> Some (single.Name t))

-- the value that one token spells
abbrev pub single_of : Token → Option Single
single_of (a_word t) = single_named t
single_of (Nat n) = Some (single.Int (pos n))
single_of (Minus n) = Some (single.Int (neg_ℤ (pos n)))
single_of (Num n) = Some (single.Num n)
single_of (a_text t) = Some (single.Text t)
single_of (a_sign s) = None

-- the token of a single value
abbrev pub a_single : Parser Single
a_single = token_as single_of

-- a single value, or in brackets the elements of an array
unfoldable pub a_value : Parser ValueText
a_value = if_next (next_is OpenBracket) (up_to CloseBracket a_single >=> λ vs. pure (valued.Many vs)) (a_single >=> λ v. pure (valued.One v))

-- a field's name, a colon, its value
unfoldable pub given : Parser Given
unfolding a_value
given = name >=> λ n. expect Colon >=> λ _. a_value >=> λ v. pure (record { name = n; value = v })
