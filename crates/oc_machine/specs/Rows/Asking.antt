-- Queries and their order.
use Rattle.std.specs.Prelude.{◌≡◌, refl, codes, ◌∷◌, []}
use Rattle.oc_machine.specs.Rows.{rows, lines, run}

-- The first criterion counts most, and ties go to the next.
order : run (
    codes "class T { a: i32, b: i32 }" ∷
    codes "make T { a: 1, b: 3 }" ∷
    codes "make T { a: 2, b: 2 }" ∷
    codes "make T { a: 1, b: 2 }" ∷
    codes "make T { a: 2, b: 3 }" ∷
    codes "query T order a asc, b desc" ∷
    []
    ) ≡ lines (
    codes "ready" ∷
    codes "ok" ∷
    codes "stored ~1 1" ∷
    codes "stored ~2 1" ∷
    codes "stored ~3 1" ∷
    codes "stored ~4 1" ∷
    codes "~1 T { a: 1, b: 3 }" ∷
    codes "~3 T { a: 1, b: 2 }" ∷
    codes "~4 T { a: 2, b: 3 }" ∷
    codes "~2 T { a: 2, b: 2 }" ∷
    codes "found 4" ∷
    codes "closed" ∷
    []
    )
unfolding rows
order = refl

-- Letters are alike for `like` alone. Null meets no comparison, and comes first.
texts : run (
    codes "class P { name: text, n: i32 }" ∷
    codes "make P { name: \"Barrichello\", n: 1 }" ∷
    codes "make P { n: 2 }" ∷
    codes "query P where name like \"barr\"" ∷
    codes "query P where name contains \"barr\"" ∷
    codes "query P where name < \"C\"" ∷
    codes "query P where not name < \"C\"" ∷
    codes "query P order name asc" ∷
    codes "query P order name desc" ∷
    []
    ) ≡ lines (
    codes "ready" ∷
    codes "ok" ∷
    codes "stored ~1 1" ∷
    codes "stored ~2 1" ∷
    codes "~1 P { name: \"Barrichello\", n: 1 }" ∷
    codes "found 1" ∷
    codes "found 0" ∷
    codes "~1 P { name: \"Barrichello\", n: 1 }" ∷
    codes "found 1" ∷
    codes "~2 P { name: null, n: 2 }" ∷
    codes "found 1" ∷
    codes "~2 P { name: null, n: 2 }" ∷
    codes "~1 P { name: \"Barrichello\", n: 1 }" ∷
    codes "found 2" ∷
    codes "~1 P { name: \"Barrichello\", n: 1 }" ∷
    codes "~2 P { name: null, n: 2 }" ∷
    codes "found 2" ∷
    codes "closed" ∷
    []
    )
unfolding rows
texts = refl

-- A path over an array gives its elements, and one null for a null array.
arrays : run (
    codes "class R { xs: [i32], ts: [text] }" ∷
    codes "make R { xs: [1, 2, 3], ts: [null, \"a\"] }" ∷
    codes "make R { xs: [] }" ∷
    codes "make R { }" ∷
    codes "query R where xs = 2" ∷
    codes "query R where xs = null" ∷
    codes "query R where not xs > 2" ∷
    codes "query R where ts = null" ∷
    codes "query R order xs desc" ∷
    []
    ) ≡ lines (
    codes "ready" ∷
    codes "ok" ∷
    codes "stored ~1 1" ∷
    codes "stored ~2 1" ∷
    codes "stored ~3 1" ∷
    codes "~1 R { xs: [1, 2, 3], ts: [null, \"a\"] }" ∷
    codes "found 1" ∷
    codes "~3 R { xs: null, ts: null }" ∷
    codes "found 1" ∷
    codes "~2 R { xs: [], ts: null }" ∷
    codes "~3 R { xs: null, ts: null }" ∷
    codes "found 2" ∷
    codes "~1 R { xs: [1, 2, 3], ts: [null, \"a\"] }" ∷
    codes "~2 R { xs: [], ts: null }" ∷
    codes "~3 R { xs: null, ts: null }" ∷
    codes "found 3" ∷
    codes "~1 R { xs: [1, 2, 3], ts: [null, \"a\"] }" ∷
    codes "~2 R { xs: [], ts: null }" ∷
    codes "~3 R { xs: null, ts: null }" ∷
    codes "found 3" ∷
    codes "closed" ∷
    []
    )
unfolding rows
arrays = refl

-- `and` binds closer than `or`. A path behind a null reference has no value, and a reference is no number.
paths : run (
    codes "class Pilot { name: text, points: i32 }" ∷
    codes "class Car { model: text, pilot: ref }" ∷
    codes "new p Pilot { name: \"Rubens Barrichello\", points: 99 }" ∷
    codes "new c Car { model: \"BMW\", pilot: p }" ∷
    codes "store c" ∷
    codes "new e Pilot { points: 99 }" ∷
    codes "query Car where pilot example e" ∷
    codes "query Car where not pilot.points > 99 and model = \"BMW\" or model = null" ∷
    codes "query Pilot where points is ~1" ∷
    codes "query Car where pilot.points = null" ∷
    codes "query Car where pilot is p and pilot is ~1" ∷
    []
    ) ≡ lines (
    codes "ready" ∷
    codes "ok" ∷
    codes "ok" ∷
    codes "ok" ∷
    codes "ok" ∷
    codes "stored ~2 2" ∷
    codes "ok" ∷
    codes "~2 Car { model: \"BMW\", pilot: ~1 }" ∷
    codes "found 1" ∷
    codes "~2 Car { model: \"BMW\", pilot: ~1 }" ∷
    codes "found 1" ∷
    codes "found 0" ∷
    codes "found 0" ∷
    codes "~2 Car { model: \"BMW\", pilot: ~1 }" ∷
    codes "found 1" ∷
    codes "closed" ∷
    []
    )
unfolding rows
paths = refl

-- Refusals go constraint by constraint from the left, the criteria last. Of a path the first name alone is asked for, in the classes below too.
refusals : run (
    codes "class A { r: ref }" ∷
    codes "class B : A { b: i32 }" ∷
    codes "class C { c: i32 }" ∷
    codes "new a A { }" ∷
    codes "query Z where q = 1" ∷
    codes "query A where q = 1 and r is z" ∷
    codes "query A where r is z and q = 1" ∷
    codes "query A where r is a or q = 1" ∷
    codes "query A where r is ~9" ∷
    codes "query A where b = 1 and r.nothing.at.all = 2" ∷
    codes "query C where b = 1" ∷
    codes "query A where not (r is a) order q asc" ∷
    codes "query A order q asc" ∷
    codes "query A order b asc, r.q desc" ∷
    []
    ) ≡ lines (
    codes "ready" ∷
    codes "ok" ∷
    codes "ok" ∷
    codes "ok" ∷
    codes "ok" ∷
    codes "error class" ∷
    codes "error field" ∷
    codes "error name" ∷
    codes "error live" ∷
    codes "found 0" ∷
    codes "found 0" ∷
    codes "error field" ∷
    codes "error live" ∷
    codes "error field" ∷
    codes "found 0" ∷
    codes "closed" ∷
    []
    )
unfolding rows
refusals = refl

-- A dangling reference reads as null: it is no object, equals null, and comes first.
dangling : run (
    codes "class A { r: ref, n: i32 }" ∷
    codes "new c A { n: 3 }" ∷
    codes "new b A { r: c, n: 2 }" ∷
    codes "new a A { r: b, n: 1 }" ∷
    codes "store a" ∷
    codes "new d A { }" ∷
    codes "delete b" ∷
    codes "query A where r = null" ∷
    codes "query A where r is ~2" ∷
    codes "query A where not r = null" ∷
    codes "query A order r asc" ∷
    []
    ) ≡ lines (
    codes "ready" ∷
    codes "ok" ∷
    codes "ok" ∷
    codes "ok" ∷
    codes "ok" ∷
    codes "stored ~3 3" ∷
    codes "ok" ∷
    codes "deleted 1" ∷
    codes "~1 A { r: null, n: 3 }" ∷
    codes "~3 A { r: null, n: 1 }" ∷
    codes "found 2" ∷
    codes "found 0" ∷
    codes "found 0" ∷
    codes "~1 A { r: null, n: 3 }" ∷
    codes "~3 A { r: null, n: 1 }" ∷
    codes "found 2" ∷
    codes "closed" ∷
    []
    )
unfolding rows
dangling = refl

-- A value of another sort meets no constraint. Numbers are compared whatever their kinds.
constraints_on_kinds : run (
    codes "class A { b: bool, n: i8, t: text, r: ref }" ∷
    codes "make A { b: true, n: 5, t: \"5\" }" ∷
    codes "query A where n = \"5\"" ∷
    codes "query A where t = 5" ∷
    codes "query A where b > false" ∷
    codes "query A where n >= 5 and n <= 5" ∷
    codes "query A where n > 170141183460469231731687303715884105727" ∷
    codes "query A where r = null and t >= \"5\"" ∷
    codes "query A where r < null" ∷
    codes "query A where b < 1" ∷
    []
    ) ≡ lines (
    codes "ready" ∷
    codes "ok" ∷
    codes "stored ~1 1" ∷
    codes "found 0" ∷
    codes "found 0" ∷
    codes "~1 A { b: true, n: 5, t: \"5\", r: null }" ∷
    codes "found 1" ∷
    codes "~1 A { b: true, n: 5, t: \"5\", r: null }" ∷
    codes "found 1" ∷
    codes "found 0" ∷
    codes "~1 A { b: true, n: 5, t: \"5\", r: null }" ∷
    codes "found 1" ∷
    codes "found 0" ∷
    codes "found 0" ∷
    codes "closed" ∷
    []
    )
unfolding rows
constraints_on_kinds = refl
