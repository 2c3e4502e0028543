-- Values, names and single objects.
use Rattle.std.specs.Prelude.{◌≡◌, refl, codes, ◌∷◌, []}
use Rattle.oc_machine.specs.Rows.{rows, lines, run, then}

-- a whole session: stores, commit, rollback, refresh, purge and forget
a_session : run (
    codes "class Pilot { name: text, points: i32 }" ∷
    codes "class Car { model: text, pilot: ref }" ∷
    codes "new p Pilot { name: \"Rubens Barrichello\", points: 99 }" ∷
    codes "new c Car { model: \"BMW\", pilot: p }" ∷
    codes "store c" ∷
    codes "commit" ∷
    codes "query Car where pilot.name starts \"Rubens\"" ∷
    codes "let p.points = 100" ∷
    codes "store c" ∷
    codes "query Pilot where points > 99" ∷
    codes "store p" ∷
    codes "peek p 1 committed" ∷
    codes "rollback" ∷
    codes "refresh p 1" ∷
    codes "show c" ∷
    codes "deactivate p 1" ∷
    codes "let p.points = 5" ∷
    codes "purge p" ∷
    codes "show p" ∷
    codes "forget p" ∷
    codes "show p" ∷
    codes "bind z ~7" ∷
    []
    ) ≡ lines (
    codes "ready" ∷
    codes "ok" ∷
    codes "ok" ∷
    codes "ok" ∷
    codes "ok" ∷
    codes "stored ~2 2" ∷
    codes "committed 1" ∷
    codes "~2 Car { model: \"BMW\", pilot: ~1 }" ∷
    codes "found 1" ∷
    codes "ok" ∷
    codes "stored ~2 1" ∷
    codes "found 0" ∷
    codes "stored ~1 1" ∷
    codes "~1 Pilot { name: \"Rubens Barrichello\", points: 99 }" ∷
    codes "peeked 1" ∷
    codes "rolled back" ∷
    codes "refreshed 1" ∷
    codes "~1 Pilot { name: \"Rubens Barrichello\", points: 99 }" ∷
    codes "~2 Car { model: \"BMW\", pilot: ~1 }" ∷
    codes "shown 2" ∷
    codes "deactivated 1" ∷
    codes "error stub" ∷
    codes "ok" ∷
    codes "!1 Pilot { name: null, points: 0 }" ∷
    codes "shown 1" ∷
    codes "ok" ∷
    codes "error name" ∷
    codes "error live" ∷
    codes "closed" ∷
    []
    )
unfolding rows
a_session = refl

-- A name that is bound again keeps its place, and one that was forgotten stands last.
order_of_names : run (
    codes "class A { r: ref }" ∷
    codes "new a A { }" ∷
    codes "new b A { }" ∷
    codes "new a A { }" ∷
    codes "names" ∷
    codes "forget a" ∷
    codes "forget a" ∷
    codes "bind a b.r" ∷
    codes "new a A { }" ∷
    codes "names" ∷
    []
    ) ≡ lines (
    codes "ready" ∷
    codes "ok" ∷
    codes "ok" ∷
    codes "ok" ∷
    codes "ok" ∷
    codes "a !3 unsaved" ∷
    codes "b !2 unsaved" ∷
    codes "names 2" ∷
    codes "ok" ∷
    codes "error name" ∷
    codes "error live" ∷
    codes "ok" ∷
    codes "b !2 unsaved" ∷
    codes "a !4 unsaved" ∷
    codes "names 2" ∷
    codes "closed" ∷
    []
    )
unfolding rows
order_of_names = refl

-- A value names what its name was bound to before the line.
name_before : run (
    codes "class A { r: ref }" ∷
    codes "new a A { }" ∷
    codes "new a A { r: a }" ∷
    codes "show a" ∷
    []
    ) ≡ lines (
    codes "ready" ∷
    codes "ok" ∷
    codes "ok" ∷
    codes "ok" ∷
    codes "!1 A { r: null }" ∷
    codes "!2 A { r: !1 }" ∷
    codes "shown 2" ∷
    codes "closed" ∷
    []
    )
unfolding rows
name_before = refl

-- The elements of an array are looked up first, from the left, and then the whole value has to fit.
refusals_of_values : run (
    codes "class A { xs: [i32], ts: [text], rs: [ref], r: ref, t: text, b: bool }" ∷
    codes "make A { xs: [true, ~99] }" ∷
    codes "make A { xs: [z, ~99] }" ∷
    codes "make A { xs: [~99, z] }" ∷
    codes "make A { xs: [true] }" ∷
    codes "make A { r: ~0 }" ∷
    codes "make A { r: ~170141183460469231731687303715884105727 }" ∷
    codes "make A { b: true, b: 1 }" ∷
    codes "make A { b: true, q: 1 }" ∷
    codes "make A { b: 1, b: true }" ∷
    codes "make A { xs: [null] }" ∷
    codes "make A { ts: [null, \"a\"], rs: [null], xs: null, r: null, t: null }" ∷
    codes "make A { b: null }" ∷
    codes "make A { xs: 1 }" ∷
    codes "make A { b: [true] }" ∷
    codes "make A { xs: [], ts: null, rs: [] }" ∷
    codes "query A" ∷
    []
    ) ≡ lines (
    codes "ready" ∷
    codes "ok" ∷
    codes "error live" ∷
    codes "error name" ∷
    codes "error live" ∷
    codes "error kind" ∷
    codes "error live" ∷
    codes "error live" ∷
    codes "error exists" ∷
    codes "error field" ∷
    codes "error kind" ∷
    codes "error kind" ∷
    codes "stored ~1 1" ∷
    codes "error kind" ∷
    codes "error kind" ∷
    codes "error kind" ∷
    codes "stored ~2 1" ∷
    codes "~1 A { xs: null, ts: [null, \"a\"], rs: [null], r: null, t: null, b: false }" ∷
    codes "~2 A { xs: [], ts: null, rs: [], r: null, t: null, b: false }" ∷
    codes "found 2" ∷
    codes "closed" ∷
    []
    )
unfolding rows
refusals_of_values = refl

-- A refused line uses no handle. What a value names by number gets its handle before the new object, by ascending number.
handles_of_refused_lines : then (
    codes "class A { r: ref, s: ref, n: i8 }" ∷
    codes "make A { }" ∷
    codes "make A { }" ∷
    []
    ) (
    codes "new a A { r: ~2, n: 128 }" ∷
    codes "let z.r = ~1" ∷
    codes "new a A { r: ~2, s: ~1 }" ∷
    codes "names" ∷
    codes "delete a" ∷
    codes "show a" ∷
    []
    ) ≡ lines (
    codes "ready" ∷
    codes "error kind" ∷
    codes "error name" ∷
    codes "ok" ∷
    codes "a !3 unsaved" ∷
    codes "names 1" ∷
    codes "error live" ∷
    codes "~1 A stub" ∷
    codes "~2 A stub" ∷
    codes "!3 A { r: ~2, s: ~1, n: 0 }" ∷
    codes "shown 3" ∷
    codes "closed" ∷
    []
    )
unfolding rows
handles_of_refused_lines = refl

lets : run (
    codes "class A { r: ref, n: i8 }" ∷
    codes "new a A { }" ∷
    codes "let a.n = 200" ∷
    codes "let a.m = 1" ∷
    codes "let a.n = ~1" ∷
    codes "let b.n = 1" ∷
    codes "let a.r = a" ∷
    codes "let a.n = -128" ∷
    codes "show a" ∷
    codes "store a" ∷
    codes "deactivate a 1" ∷
    codes "let a.m = 1" ∷
    codes "bind c a.m" ∷
    []
    ) ≡ lines (
    codes "ready" ∷
    codes "ok" ∷
    codes "ok" ∷
    codes "error kind" ∷
    codes "error field" ∷
    codes "error live" ∷
    codes "error name" ∷
    codes "ok" ∷
    codes "ok" ∷
    codes "!1 A { r: !1, n: -128 }" ∷
    codes "shown 1" ∷
    codes "stored ~1 1" ∷
    codes "deactivated 1" ∷
    codes "error stub" ∷
    codes "error stub" ∷
    codes "closed" ∷
    []
    )
unfolding rows
lets = refl

binds : run (
    codes "class A { r: ref, n: i8 }" ∷
    codes "new a A { }" ∷
    codes "bind c a.m" ∷
    codes "bind c a.n" ∷
    codes "bind c a.r" ∷
    codes "bind c z.r" ∷
    codes "bind c ~1" ∷
    codes "store a" ∷
    codes "bind c ~1" ∷
    codes "names" ∷
    codes "purge c" ∷
    codes "names" ∷
    codes "purge c" ∷
    []
    ) ≡ lines (
    codes "ready" ∷
    codes "ok" ∷
    codes "ok" ∷
    codes "error field" ∷
    codes "error kind" ∷
    codes "error live" ∷
    codes "error name" ∷
    codes "error live" ∷
    codes "stored ~1 1" ∷
    codes "ok" ∷
    codes "a ~1 active" ∷
    codes "c ~1 active" ∷
    codes "names 2" ∷
    codes "ok" ∷
    codes "a !1 unsaved" ∷
    codes "c !1 unsaved" ∷
    codes "names 2" ∷
    codes "error live" ∷
    codes "closed" ∷
    []
    )
unfolding rows
binds = refl

-- The class is asked for before the number.
settings : run (
    codes "class A { }" ∷
    codes "config Z.minimum 65536" ∷
    codes "config A.minimum 65536" ∷
    codes "config A.maximum 65535" ∷
    codes "config activation 65536" ∷
    codes "config update 65535" ∷
    codes "config Z.cascade_delete on" ∷
    codes "config A.cascade_delete off" ∷
    []
    ) ≡ lines (
    codes "ready" ∷
    codes "ok" ∷
    codes "error class" ∷
    codes "error size" ∷
    codes "ok" ∷
    codes "error size" ∷
    codes "ok" ∷
    codes "error class" ∷
    codes "ok" ∷
    codes "closed" ∷
    []
    )
unfolding rows
settings = refl
