-- The lines class, make and query.
use Rattle.std.specs.Prelude.{◌≡◌, refl, codes, ◌++◌, [], ◌∷◌, replicate}
use Rattle.oc_machine.specs.Rows.{rows, lines, said, then}

-- an empty script
nothing_said : said (codes "") ≡ codes "ready\nclosed\n"
unfolding rows
nothing_said = refl

-- an object comes back
pilot : said (codes "class Pilot { name: text, points: i32 }\nmake Pilot { name: \"Michael\", points: 100 }\nquery Pilot\n")
    ≡ codes "ready\nok\nstored ~1 1\n~1 Pilot { name: \"Michael\", points: 100 }\nfound 1\nclosed\n"
unfolding rows
pilot = refl

-- it is there in a second run, as it was
in_a_second_run : then (codes "class Pilot { name: text, points: i32 }" ∷ codes "make Pilot { name: \"Michael\", points: 100 }" ∷ codes "query Pilot" ∷ []) (codes "query Pilot" ∷ [])
    ≡ lines (codes "ready" ∷ codes "~1 Pilot { name: \"Michael\", points: 100 }" ∷ codes "found 1" ∷ codes "closed" ∷ [])
unfolding rows
in_a_second_run = refl

-- defaults and refusals
refusals : said (codes "class A { n: i32 }\nmake A { }\nmake B { }\nmake A { n: 2147483648 }\nquery A\n")
    ≡ codes "ready\nok\nstored ~1 1\nerror class\nerror kind\n~1 A { n: 0 }\nfound 1\nclosed\n"
unfolding rows
refusals = refl

-- The refusals of make come field by field. A refused make uses no number.
field_by_field : said (codes "class A { n: i32, t: text }\nmake A { x: 1, n: \"a\" }\nmake A { n: 1, n: \"a\" }\nmake A { n: null }\nmake A { t: 1 }\nmake A { t: null, n: -2147483648 }\nquery A\n")
    ≡ codes "ready\nok\nerror field\nerror exists\nerror kind\nerror kind\nstored ~1 1\n~1 A { n: -2147483648, t: null }\nfound 1\nclosed\n"
unfolding rows
field_by_field = refl

-- A field name that is given twice is refused. So is, as no command, a class that is there, and every line that isn't built.
not_built : said (codes "class A { n: i32, n: text }\nclass A { }\nclass A { }\nclass B : A { }\nclass C { r: ref }\ncommit\nmake A { n: true }\nquery A where n = 1\nquery A\n")
    ≡ codes "ready\nerror exists\nok\nerror syntax\nerror syntax\nerror syntax\nerror syntax\nerror syntax\nerror syntax\nfound 0\nclosed\n"
unfolding rows
not_built = refl

-- Objects without fields, and two classes: a query gives its own class alone, by number.
two_classes : said (codes "class E { }\nclass F { n: i32 }\nmake F { n: 7 }\nmake E { }\nmake F{n:-0}\nquery F\nquery E\n")
    ≡ codes "ready\nok\nok\nstored ~1 1\nstored ~2 1\nstored ~3 1\n~1 F { n: 7 }\n~3 F { n: 0 }\nfound 2\n~2 E { }\nfound 1\nclosed\n"
unfolding rows
two_classes = refl

-- Blank lines and comments say nothing. CR is a blank, and the last line needs no LF.
quiet_lines : said (codes "\n \t \n# a comment\n  # another\nclass A { n: i32 }\r\n\nquery A")
    ≡ codes "ready\nok\nfound 0\nclosed\n"
unfolding rows
quiet_lines = refl

-- Every escape is read, and printed in its one form.
escapes : said (codes "class T { t: text }\nmake T { t: \"q\\\" b\\\\ n\\n r\\r t\\t x\\x01 y\\x7F a\\x41 " ++ 195 ∷ 169 ∷ codes "\" }\nquery T\n")
    ≡ codes "ready\nok\nstored ~1 1\n~1 T { t: \"q\\\" b\\\\ n\\n r\\r t\\t x\\x01 y\\x7f aA " ++ 195 ∷ 169 ∷ codes "\" }\nfound 1\nclosed\n"
unfolding rows
escapes = refl

-- `\x80`, an unknown escape, a text without its end, a raw tab and bytes that aren't UTF-8 are no text.
no_texts : said (codes "class T { t: text }\nmake T { t: \"\\x80\" }\nmake T { t: \"\\q\" }\nmake T { t: \"a }\nmake T { t: \"\t\" }\nmake T { t: \"" ++ 195 ∷ 40 ∷ codes "\" }\nquery T\n")
    ≡ codes "ready\nok\nerror syntax\nerror syntax\nerror syntax\nerror syntax\nerror syntax\nfound 0\nclosed\n"
unfolding rows
no_texts = refl

-- Leading zeros count as digits: 39 are a number and 40 are none. Two signs are no sign with a blank between.
digits : said (codes "class A { n: i32 }\nmake A { n: 000000000000000000000000000000000000007 }\nmake A { n: 0000000000000000000000000000000000000007 }\nmake A { n: - 1 }\nmake A { n: 170141183460469231731687303715884105727 }\nmake A { n: 170141183460469231731687303715884105728 }\nmake A { n: -170141183460469231731687303715884105728 }\nmake A { n: -170141183460469231731687303715884105729 }\nquery A\n")
    ≡ codes "ready\nok\nstored ~1 1\nerror syntax\nerror syntax\nerror kind\nerror syntax\nerror kind\nerror syntax\n~1 A { n: 7 }\nfound 1\nclosed\n"
unfolding rows
digits = refl

-- A name has at most 64 bytes and is no reserved word. A command word or a kind may be a name.
names : said (codes "class " ++ replicate 64 97 ++ codes " { }\nclass " ++ replicate 65 97 ++ codes " { }\nclass null { }\nclass class { text: text, i32: i32 }\nmake class { i32: 1 }\nquery class\n")
    ≡ codes "ready\nok\nerror syntax\nerror syntax\nok\nstored ~1 1\n~1 class { text: null, i32: 1 }\nfound 1\nclosed\n"
unfolding rows
names = refl
