-- Which lines are refused, and with which word.
use Rattle.std.specs.Prelude.{◌≡◌, refl, Bool, true, false, List, [], ◌∷◌, ◌++◌, codes, replicate, Some, is_none}
use Rattle.std.specs.List.{list_all}
use Rattle.oc_model.specs.declared.answer.Word.TheVariants.{Syntax, Long, Deep}
use Rattle.oc_model.specs.Maps.{Text}
use Rattle.oc_machine.specs.declared.token.Sign.TheVariants.{Less, AtMost, Equal}
use Rattle.oc_machine.specs.declared.token.Token.TheVariants as a
use Rattle.oc_machine.specs.Lexing.{tokens}
use Rattle.oc_machine.specs.Reading.{Reading, refused, reading}
use Rattle.oc_machine.specs.Rows.{rows, times}

-- ---- words for rows

-- the line is refused as it spells no command
abbrev is_syntax : Reading → Bool
is_syntax (refused Syntax) = true
is_syntax _ = false

-- each of the lines is refused as no command
abbrev are_syntax : List Text → Bool
are_syntax lines = list_all (λ line. is_syntax (reading line)) lines

-- none of the lines falls into tokens
abbrev fall_apart : List Text → Bool
fall_apart lines = list_all (λ line. is_none (tokens line)) lines

-- the line that gives a field a text, by the bytes between the quotes
abbrev text_line : Text → Text
text_line t = codes "let a.f = \"" ++ t ++ codes "\""

-- ---- tokens

-- a name begins behind a number, and a text behind a name
two_tokens : tokens (codes "1session a\"t\"") ≡ Some (a.Nat 1 ∷ a.Word (codes "session") ∷ a.Word (codes "a") ∷ a.Text (codes "t") ∷ [])
unfolding rows
two_tokens = refl

two_signs : tokens (codes "< =<=") ≡ Some (a.Sign Less ∷ a.Sign Equal ∷ a.Sign AtMost ∷ [])
unfolding rows
two_signs = refl

two_signs_are_syntax : are_syntax (codes "query A where a < = 1" ∷ codes "store a\"t\"" ∷ []) ≡ true
unfolding rows
two_signs_are_syntax = refl

-- 40 digits, numbers beyond their limit, a word of 65 bytes, and numbers with a blank or a sign within
no_tokens : fall_apart (
    replicate 40 48
    ∷ (45 ∷ replicate 40 48)
    ∷ (126 ∷ replicate 40 48)
    ∷ replicate 65 97
    ∷ codes "170141183460469231731687303715884105728"
    ∷ codes "~170141183460469231731687303715884105728"
    ∷ codes "-170141183460469231731687303715884105729"
    ∷ codes "- 1"
    ∷ codes "~ 1"
    ∷ codes "~-1"
    ∷ codes "--1"
    ∷ codes "$"
    ∷ codes "a;"
    ∷ []
    ) ≡ true
unfolding rows
no_tokens = refl

-- Vertical tab and form feed are no blanks.
no_blanks : are_syntax ((11 ∷ []) ∷ (12 ∷ []) ∷ (codes "show" ++ 11 ∷ codes "a") ∷ (codes "names" ++ 12 ∷ []) ∷ []) ≡ true
unfolding rows
no_blanks = refl

-- ---- texts

-- No `\x80`, no digit beyond f, no unknown escape, no end; no raw tab, CR or DEL.
no_texts : fall_apart (
    text_line (codes "\\x80")
    ∷ text_line (codes "\\x0g")
    ∷ text_line (codes "\\x0")
    ∷ text_line (codes "\\q")
    ∷ text_line (codes "\\")
    ∷ codes "let a.f = \"t"
    ∷ text_line (9 ∷ [])
    ∷ text_line (13 ∷ [])
    ∷ text_line (127 ∷ [])
    ∷ text_line (0 ∷ [])
    ∷ []
    ) ≡ true
unfolding rows
no_texts = refl

-- A surrogate, forms of two and three bytes that are too long, a byte that begins nothing, a character cut off, one beyond the last. Outside a text no such byte stands at all.
no_characters : fall_apart (
    text_line (237 ∷ 160 ∷ 128 ∷ [])
    ∷ text_line (192 ∷ 128 ∷ [])
    ∷ text_line (224 ∷ 128 ∷ 128 ∷ [])
    ∷ text_line (255 ∷ [])
    ∷ text_line (128 ∷ [])
    ∷ text_line (195 ∷ [])
    ∷ text_line (244 ∷ 144 ∷ 128 ∷ 128 ∷ [])
    ∷ (codes "show a" ++ 195 ∷ 169 ∷ [])
    ∷ []
    ) ≡ true
unfolding rows
no_characters = refl

-- ---- lines

-- A number without a sign stands as a depth and in a setting.
no_depths : are_syntax (codes "store a -5" ∷ codes "activate a -5" ∷ codes "deactivate a -0" ∷ codes "refresh a -5" ∷ codes "peek a -1 session" ∷ codes "config activation -1" ∷ codes "config A.minimum -1" ∷ codes "refresh a ~1" ∷ codes "bind a 1" ∷ codes "peek 1 1 session" ∷ []) ≡ true
unfolding rows
no_depths = refl

-- parts that are missing
too_short : are_syntax (
    codes "class"
    ∷ codes "class A"
    ∷ codes "class A : { }"
    ∷ codes "class A { a }"
    ∷ codes "class A { a: i32, }"
    ∷ codes "class A { , }"
    ∷ codes "class A { a: i32"
    ∷ codes "class A { a: [] }"
    ∷ codes "class A { a: [i32 }"
    ∷ codes "rename A to"
    ∷ codes "rename A. to b"
    ∷ codes "convert A.a i32"
    ∷ codes "index A"
    ∷ codes "unindex A."
    ∷ codes "config A"
    ∷ codes "config activation"
    ∷ codes "config A.minimum"
    ∷ codes "config A.cascade_update"
    ∷ codes "new a { }"
    ∷ codes "make A"
    ∷ codes "let a.f ="
    ∷ codes "let a = 1"
    ∷ codes "let a.f = [1,]"
    ∷ codes "let a.f = [1 2]"
    ∷ codes "bind a"
    ∷ codes "bind a b"
    ∷ codes "peek a session"
    ∷ codes "peek a 1"
    ∷ codes "deactivate a"
    ∷ codes "refresh a"
    ∷ codes "query A where"
    ∷ codes "query A order"
    ∷ codes "query A order a"
    ∷ codes "query A order a asc,"
    ∷ codes "store"
    ∷ []
    ) ≡ true
unfolding rows
too_short = refl

-- parts that are too many, or of another kind
too_long : are_syntax (
    codes "names a"
    ∷ codes "commit 1"
    ∷ codes "rollback a"
    ∷ codes "show a b"
    ∷ codes "store a 1 2"
    ∷ codes "query A order a asc where a = 1"
    ∷ codes "query A where a = 1 where a = 1"
    ∷ codes "class A { a: real }"
    ∷ codes "class A { a: [[i32]] }"
    ∷ codes "config A 1"
    ∷ codes "config A.minimum on"
    ∷ codes "config A.cascade_update 1"
    ∷ codes "config A.depth 1"
    ∷ codes "config A.cascade_delete yes"
    ∷ codes "peek a 1 both"
    ∷ codes "let a.f = [[1]]"
    ∷ codes "let a.f = {"
    ∷ codes "Names"
    ∷ codes "unknown"
    ∷ codes "1"
    ∷ codes "{ }"
    ∷ codes "\"names\""
    ∷ []
    ) ≡ true
unfolding rows
too_long = refl

-- ---- expressions

no_expressions : are_syntax (
    codes "query A where not not a = 1"
    ∷ codes "query A where ()"
    ∷ codes "query A where (a = 1"
    ∷ codes "query A where a = 1)"
    ∷ codes "query A where )a = 1("
    ∷ codes "query A where a = 1 and"
    ∷ codes "query A where a = 1 and or b = 2"
    ∷ codes "query A where and a = 1"
    ∷ codes "query A where a = 1 not b = 2"
    ∷ codes "query A where a"
    ∷ codes "query A where a ="
    ∷ codes "query A where a = b"
    ∷ codes "query A where a = ~1"
    ∷ codes "query A where a = [1]"
    ∷ codes "query A where 1 = a"
    ∷ codes "query A where a like 1"
    ∷ codes "query A where a is 1"
    ∷ codes "query A where a is \"b\""
    ∷ codes "query A where a example ~1"
    ∷ codes "query A where a. = 1"
    ∷ codes "query A where (a) = 1"
    ∷ codes "query A where a == 1"
    ∷ codes "query A where a : 1"
    ∷ []
    ) ≡ true
unfolding rows
no_expressions = refl

-- a path of 17 names
too_many_names : are_syntax ((codes "query A where a" ++ times 16 (codes ".a") ++ codes " = 1") ∷ (codes "query A order a" ++ times 16 (codes ".a") ++ codes " asc") ∷ []) ≡ true
unfolding rows
too_many_names = refl

-- ---- reserved words

-- A reserved word stands in no place of a name.
reserved : are_syntax (
    codes "class null { }"
    ∷ codes "class A : true { }"
    ∷ codes "class A { false: i32 }"
    ∷ codes "rename and to B"
    ∷ codes "rename A to or"
    ∷ codes "rename A.not to b"
    ∷ codes "rename A.a to where"
    ∷ codes "convert order.a from i32"
    ∷ codes "convert A.asc from i32"
    ∷ codes "index desc.a"
    ∷ codes "index A.null"
    ∷ codes "unindex true.a"
    ∷ codes "unindex A.false"
    ∷ codes "config and.minimum 1"
    ∷ codes "new or A { }"
    ∷ codes "new a not { }"
    ∷ codes "new a A { where: 1 }"
    ∷ codes "make order { }"
    ∷ codes "make A { asc: 1 }"
    ∷ codes "let desc.f = 1"
    ∷ codes "let a.null = 1"
    ∷ codes "let a.f = and"
    ∷ codes "let a.f = [or]"
    ∷ codes "bind true ~1"
    ∷ codes "bind a false.f"
    ∷ codes "bind a b.and"
    ∷ codes "forget or"
    ∷ codes "show not"
    ∷ codes "peek where 1 session"
    ∷ codes "store order"
    ∷ codes "delete asc"
    ∷ codes "activate desc"
    ∷ codes "deactivate null 1"
    ∷ codes "refresh true 1"
    ∷ codes "purge false"
    ∷ codes "query and"
    ∷ codes "query A where or = 1"
    ∷ codes "query A where a.not = 1"
    ∷ codes "query A where a is where"
    ∷ codes "query A where a example order"
    ∷ codes "query A order asc asc"
    ∷ codes "query A order a.desc asc"
    ∷ codes "example null"
    ∷ []
    ) ≡ true
unfolding rows
reserved = refl

-- ---- parentheses

-- the line is refused for its parentheses
abbrev is_deep_line : Reading → Bool
is_deep_line (refused Deep) = true
is_deep_line _ = false

-- each of the lines is refused for its parentheses
abbrev are_deep : List Text → Bool
are_deep lines = list_all (λ line. is_deep_line (reading line)) lines

-- More than 64 are open at some place, in a line of any command; also where the line is no command.
deep : are_deep (
    (codes "query A where " ++ replicate 65 40 ++ codes "a = 1" ++ replicate 65 41)
    ∷ replicate 65 40
    ∷ (codes "names " ++ replicate 65 40)
    ∷ (codes "show a" ++ replicate 65 40 ++ replicate 65 41)
    ∷ (replicate 64 40 ++ 41 ∷ 40 ∷ 40 ∷ [])
    ∷ (codes "query A where " ++ replicate 65 40 ++ codes "a" ++ times 16 (codes ".a") ++ codes " = 1" ++ replicate 65 41)
    ∷ []
    ) ≡ true
unfolding rows
deep = refl

-- A `)` with none open closes nothing.
closes_nothing : are_deep ((41 ∷ replicate 65 40) ∷ (replicate 65 41 ++ replicate 65 40) ∷ (40 ∷ 41 ∷ 41 ∷ replicate 65 40) ∷ []) ≡ true
unfolding rows
closes_nothing = refl

-- 64 open ones, or more that are closed between, are no more than no command. So is a deep line that doesn't fall into tokens.
not_deep : are_syntax (replicate 64 40 ∷ (41 ∷ replicate 64 40) ∷ times 65 (codes "()") ∷ (replicate 65 40 ++ replicate 40 49) ∷ (replicate 65 40 ++ replicate 65 97) ∷ (replicate 65 40 ++ codes "\"") ∷ []) ≡ true
unfolding rows
not_deep = refl

-- ---- length

-- the line is refused for its length
abbrev is_long : Reading → Bool
is_long (refused Long) = true
is_long _ = false

-- more than 65,535 bytes, whatever they are
long : list_all (λ line. is_long (reading line)) (replicate 65536 32 ∷ (35 ∷ replicate 65535 97) ∷ replicate 65536 40 ∷ replicate 65536 255 ∷ []) ≡ true
unfolding rows
long = refl
