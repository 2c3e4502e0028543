-- Queries by example.
use Rattle.std.specs.Prelude.{◌≡◌, refl, codes, ◌∷◌, []}
use Rattle.oc_machine.specs.Rows.{rows, lines, run}

-- false, 0, the empty text and null ask nothing. The example of itself is a cycle.
defaults_ask_nothing : run (
    codes "class P { name: text, n: i32, f: bool }" ∷
    codes "class Q : P { }" ∷
    codes "make P { name: \"a\", n: 1 }" ∷
    codes "make Q { name: \"b\", f: true }" ∷
    codes "new e P { name: \"\", n: 0 }" ∷
    codes "example e" ∷
    codes "class L { r: ref }" ∷
    codes "new l L { }" ∷
    codes "let l.r = l" ∷
    codes "example l" ∷
    []
    ) ≡ lines (
    codes "ready" ∷
    codes "ok" ∷
    codes "ok" ∷
    codes "stored ~1 1" ∷
    codes "stored ~2 1" ∷
    codes "ok" ∷
    codes "~1 P { name: \"a\", n: 1, f: false }" ∷
    codes "~2 Q { name: \"b\", n: 0, f: true }" ∷
    codes "found 2" ∷
    codes "ok" ∷
    codes "ok" ∷
    codes "ok" ∷
    codes "error cycle" ∷
    codes "closed" ∷
    []
    )
unfolding rows
defaults_ask_nothing = refl

-- Each element that isn't a default has to be among the object's. An array of defaults asks nothing.
arrays : run (
    codes "class R { xs: [i32], ts: [text], rs: [ref], n: i32 }" ∷
    codes "make R { xs: [1, 2, 3], ts: [\"a\"] }" ∷
    codes "make R { xs: [3, 1] }" ∷
    codes "make R { n: 1 }" ∷
    codes "new e R { xs: [1, 3, 0, 1] }" ∷
    codes "example e" ∷
    codes "new e R { xs: [0, 0], ts: [null, \"\"], rs: [null] }" ∷
    codes "example e" ∷
    codes "new e R { ts: [\"a\", null], n: 1 }" ∷
    codes "example e" ∷
    codes "new e R { rs: [~3] }" ∷
    codes "example e" ∷
    codes "make R { rs: [~1, ~3] }" ∷
    codes "example e" ∷
    []
    ) ≡ lines (
    codes "ready" ∷
    codes "ok" ∷
    codes "stored ~1 1" ∷
    codes "stored ~2 1" ∷
    codes "stored ~3 1" ∷
    codes "ok" ∷
    codes "~1 R { xs: [1, 2, 3], ts: [\"a\"], rs: null, n: 0 }" ∷
    codes "~2 R { xs: [3, 1], ts: null, rs: null, n: 0 }" ∷
    codes "found 2" ∷
    codes "ok" ∷
    codes "~1 R { xs: [1, 2, 3], ts: [\"a\"], rs: null, n: 0 }" ∷
    codes "~2 R { xs: [3, 1], ts: null, rs: null, n: 0 }" ∷
    codes "~3 R { xs: null, ts: null, rs: null, n: 1 }" ∷
    codes "found 3" ∷
    codes "ok" ∷
    codes "found 0" ∷
    codes "ok" ∷
    codes "found 0" ∷
    codes "stored ~4 1" ∷
    codes "~4 R { xs: null, ts: null, rs: [~1, ~3], n: 0 }" ∷
    codes "found 1" ∷
    codes "closed" ∷
    []
    )
unfolding rows
arrays = refl

-- A reference asks for an object that meets the example of what it names, and not for that object.
inner_examples : run (
    codes "class P { n: i32 }" ∷
    codes "class Q : P { }" ∷
    codes "class C { p: ref }" ∷
    codes "new p P { n: 1 }" ∷
    codes "new q Q { n: 1 }" ∷
    codes "new a C { p: p }" ∷
    codes "new b C { p: q }" ∷
    codes "store a" ∷
    codes "store b" ∷
    codes "new e C { p: p }" ∷
    codes "example e" ∷
    codes "new f C { p: q }" ∷
    codes "example f" ∷
    codes "query C where p example p" ∷
    codes "query C where p example z" ∷
    codes "example z" ∷
    []
    ) ≡ lines (
    codes "ready" ∷
    codes "ok" ∷
    codes "ok" ∷
    codes "ok" ∷
    codes "ok" ∷
    codes "ok" ∷
    codes "ok" ∷
    codes "ok" ∷
    codes "stored ~2 2" ∷
    codes "stored ~4 2" ∷
    codes "ok" ∷
    codes "~2 C { p: ~1 }" ∷
    codes "~4 C { p: ~3 }" ∷
    codes "found 2" ∷
    codes "ok" ∷
    codes "~4 C { p: ~3 }" ∷
    codes "found 1" ∷
    codes "~2 C { p: ~1 }" ∷
    codes "~4 C { p: ~3 }" ∷
    codes "found 2" ∷
    codes "error name" ∷
    codes "error name" ∷
    codes "closed" ∷
    []
    )
unfolding rows
inner_examples = refl

-- An inactive object is refused before a cycle, wherever it can be reached.
stub_before_cycle : run (
    codes "class L { r: ref, s: ref }" ∷
    codes "new b L { }" ∷
    codes "store b" ∷
    codes "new a L { s: b }" ∷
    codes "let a.r = a" ∷
    codes "deactivate b 1" ∷
    codes "example a" ∷
    codes "activate b" ∷
    codes "example a" ∷
    []
    ) ≡ lines (
    codes "ready" ∷
    codes "ok" ∷
    codes "ok" ∷
    codes "stored ~1 1" ∷
    codes "ok" ∷
    codes "ok" ∷
    codes "deactivated 1" ∷
    codes "error stub" ∷
    codes "activated 1" ∷
    codes "error cycle" ∷
    codes "closed" ∷
    []
    )
unfolding rows
stub_before_cycle = refl
