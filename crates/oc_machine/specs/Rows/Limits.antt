-- What is past a limit, and what is just within it.
use Rattle.std.specs.Prelude.{◌≡◌, refl, ℕ, true, false, codes, ◌∷◌, ◌++◌, [], replicate, flat_map, decimal, Some}
use Rattle.oc_model.specs.declared.value.Base.TheVariants as base
use Rattle.oc_model.specs.declared.value.Kind.TheVariants as kind
use Rattle.oc_model.specs.declared.value.Atom.TheVariants as atom
use Rattle.oc_model.specs.declared.value.Value.TheVariants as value
use Rattle.oc_model.specs.declared.value.Rec.{Rec}
use Rattle.oc_model.specs.Maps.{Map}
use Rattle.oc_machine.specs.SchemaLines.{are_short}
use Rattle.oc_machine.specs.Generated.{up_to}
use Rattle.oc_machine.specs.Rows.{rows, lines, run, times, said_by_whole}

-- 32 ancestors are allowed, and one more is refused.
ancestors : run (
    codes "class C0 { }" ∷
    codes "class C1 : C0 { }" ∷
    codes "class C2 : C1 { }" ∷
    codes "class C3 : C2 { }" ∷
    codes "class C4 : C3 { }" ∷
    codes "class C5 : C4 { }" ∷
    codes "class C6 : C5 { }" ∷
    codes "class C7 : C6 { }" ∷
    codes "class C8 : C7 { }" ∷
    codes "class C9 : C8 { }" ∷
    codes "class C10 : C9 { }" ∷
    codes "class C11 : C10 { }" ∷
    codes "class C12 : C11 { }" ∷
    codes "class C13 : C12 { }" ∷
    codes "class C14 : C13 { }" ∷
    codes "class C15 : C14 { }" ∷
    codes "class C16 : C15 { }" ∷
    codes "class C17 : C16 { }" ∷
    codes "class C18 : C17 { }" ∷
    codes "class C19 : C18 { }" ∷
    codes "class C20 : C19 { }" ∷
    codes "class C21 : C20 { }" ∷
    codes "class C22 : C21 { }" ∷
    codes "class C23 : C22 { }" ∷
    codes "class C24 : C23 { }" ∷
    codes "class C25 : C24 { }" ∷
    codes "class C26 : C25 { }" ∷
    codes "class C27 : C26 { }" ∷
    codes "class C28 : C27 { }" ∷
    codes "class C29 : C28 { }" ∷
    codes "class C30 : C29 { }" ∷
    codes "class C31 : C30 { }" ∷
    codes "class C32 : C31 { }" ∷
    codes "class C33 : C32 { }" ∷
    []
    ) ≡ lines (
    codes "ready" ∷
    codes "ok" ∷
    codes "ok" ∷
    codes "ok" ∷
    codes "ok" ∷
    codes "ok" ∷
    codes "ok" ∷
    codes "ok" ∷
    codes "ok" ∷
    codes "ok" ∷
    codes "ok" ∷
    codes "ok" ∷
    codes "ok" ∷
    codes "ok" ∷
    codes "ok" ∷
    codes "ok" ∷
    codes "ok" ∷
    codes "ok" ∷
    codes "ok" ∷
    codes "ok" ∷
    codes "ok" ∷
    codes "ok" ∷
    codes "ok" ∷
    codes "ok" ∷
    codes "ok" ∷
    codes "ok" ∷
    codes "ok" ∷
    codes "ok" ∷
    codes "ok" ∷
    codes "ok" ∷
    codes "ok" ∷
    codes "ok" ∷
    codes "ok" ∷
    codes "ok" ∷
    codes "error size" ∷
    codes "closed" ∷
    []
    )
unfolding rows
ancestors = refl

-- A class below has its 255 fields, so the one above gets none more. A name that is taken there is told first.
fields_of_descendants : said_by_whole (codes "class A { }\nclass B : A { " ++ flat_map (λ i. codes "f" ++ decimal i ++ codes ": i8, ") (up_to 254) ++ codes "g: i8 }\nclass A { h: i8 }\nclass A { g: i8 }\n")
    ≡ codes "ready\nok\nok\nerror size\nerror exists\nclosed\n"
unfolding rows
fields_of_descendants = refl

-- A path of 64 references is an example, and one reference more is too deep.
deep_examples : said_by_whole (codes "class N { a: ref }\nnew x N { }\n" ++ times 64 (codes "new x N { a: x }\n") ++ codes "example x\nnew x N { a: x }\nexample x\n")
    ≡ codes "ready\nok\n" ++ times 65 (codes "ok\n") ++ codes "found 0\nok\nerror deep\nclosed\n"
unfolding rows
deep_examples = refl

-- Of an example that is too deep and too large, the depth is told.
deep_and_wide_examples : said_by_whole (codes "class N { a: ref, b: ref }\nnew x N { }\n" ++ times 65 (codes "new x N { a: x, b: x }\n") ++ codes "example x\n")
    ≡ codes "ready\nok\n" ++ times 66 (codes "ok\n") ++ codes "error deep\nclosed\n"
unfolding rows
deep_and_wide_examples = refl

-- Each of 16 objects names the one before it twice, so 131,070 references are counted.
wide_examples : said_by_whole (codes "class N { a: ref, b: ref }\nnew x N { }\n" ++ times 16 (codes "new x N { a: x, b: x }\n") ++ codes "example x\n")
    ≡ codes "ready\nok\n" ++ times 17 (codes "ok\n") ++ codes "error size\nclosed\n"
unfolding rows
wide_examples = refl

-- a record of 16 bytes and a text
abbrev with_text : ℕ → Map Rec
with_text n = (1, record { class = 1; entries = record { id = 1; value = value.One (atom.Text (Some (replicate n 97))); kind = kind.One base.Text } ∷ [] }) ∷ []

-- 262,144 bytes are a record
longest_record : are_short (with_text 262128) ≡ true
unfolding rows
longest_record = refl

longer_record : are_short (with_text 262129) ≡ false
unfolding rows
longer_record = refl
