-- Storing: what is written, and what stays as it was.
use Rattle.std.specs.Prelude.{◌≡◌, refl, codes, ◌∷◌, []}
use Rattle.oc_machine.specs.Rows.{rows, lines, run, then}

-- A store writes the root, and what it names only where that is unsaved.
update_depth : run (
    codes "class M { v: i32, r: ref, s: ref }" ∷
    codes "new a M { v: 1 }" ∷
    codes "new b M { v: 2 }" ∷
    codes "let a.r = b" ∷
    codes "store a" ∷
    codes "let a.v = 10" ∷
    codes "let b.v = 20" ∷
    codes "new c M { v: 3 }" ∷
    codes "let a.s = c" ∷
    codes "store a" ∷
    codes "query M" ∷
    []
    ) ≡ lines (
    codes "ready" ∷
    codes "ok" ∷
    codes "ok" ∷
    codes "ok" ∷
    codes "ok" ∷
    codes "stored ~1 2" ∷
    codes "ok" ∷
    codes "ok" ∷
    codes "ok" ∷
    codes "ok" ∷
    codes "stored ~1 2" ∷
    codes "~1 M { v: 10, r: ~2, s: ~3 }" ∷
    codes "~2 M { v: 2, r: null, s: null }" ∷
    codes "~3 M { v: 3, r: null, s: null }" ∷
    codes "found 3" ∷
    codes "closed" ∷
    []
    )
unfolding rows
update_depth = refl

-- Depth 2 writes what the root names too, and depth 0 nothing that is stored.
update_depth_two : run (
    codes "class M { v: i32, r: ref }" ∷
    codes "new c M { }" ∷
    codes "new b M { r: c }" ∷
    codes "new a M { r: b }" ∷
    codes "store a" ∷
    codes "let a.v = 1" ∷
    codes "let b.v = 2" ∷
    codes "let c.v = 3" ∷
    codes "store a 0" ∷
    codes "store a 2" ∷
    codes "query M" ∷
    []
    ) ≡ lines (
    codes "ready" ∷
    codes "ok" ∷
    codes "ok" ∷
    codes "ok" ∷
    codes "ok" ∷
    codes "stored ~3 3" ∷
    codes "ok" ∷
    codes "ok" ∷
    codes "ok" ∷
    codes "stored ~3 0" ∷
    codes "stored ~3 2" ∷
    codes "~1 M { v: 0, r: null }" ∷
    codes "~2 M { v: 2, r: ~1 }" ∷
    codes "~3 M { v: 1, r: ~2 }" ∷
    codes "found 3" ∷
    codes "closed" ∷
    []
    )
unfolding rows
update_depth_two = refl

-- Depth 0 stores what is unsaved. A cascade writes on, and a purge leaves the object unsaved.
update_cascade : run (
    codes "class M { v: i32, r: ref }" ∷
    codes "new a M { }" ∷
    codes "new b M { }" ∷
    codes "let a.r = b" ∷
    codes "store a 0" ∷
    codes "let b.v = 7" ∷
    codes "config M.cascade_update on" ∷
    codes "store a 1" ∷
    codes "query M" ∷
    codes "purge b" ∷
    codes "names" ∷
    []
    ) ≡ lines (
    codes "ready" ∷
    codes "ok" ∷
    codes "ok" ∷
    codes "ok" ∷
    codes "ok" ∷
    codes "stored ~1 2" ∷
    codes "ok" ∷
    codes "ok" ∷
    codes "stored ~1 2" ∷
    codes "~1 M { v: 0, r: ~2 }" ∷
    codes "~2 M { v: 7, r: null }" ∷
    codes "found 2" ∷
    codes "ok" ∷
    codes "a ~1 active" ∷
    codes "b !2 unsaved" ∷
    codes "names 2" ∷
    codes "closed" ∷
    []
    )
unfolding rows
update_cascade = refl

-- The depth that is set for a class counts, else that of the run. A make takes it too.
set_depths : run (
    codes "class M { v: i32, r: ref }" ∷
    codes "new b M { }" ∷
    codes "new a M { r: b }" ∷
    codes "store a" ∷
    codes "config update 2" ∷
    codes "let b.v = 1" ∷
    codes "store a" ∷
    codes "config M.update 0" ∷
    codes "let b.v = 2" ∷
    codes "store a" ∷
    codes "config M.update 3" ∷
    codes "make M { r: ~2 }" ∷
    codes "query M" ∷
    []
    ) ≡ lines (
    codes "ready" ∷
    codes "ok" ∷
    codes "ok" ∷
    codes "ok" ∷
    codes "stored ~2 2" ∷
    codes "ok" ∷
    codes "ok" ∷
    codes "stored ~2 2" ∷
    codes "ok" ∷
    codes "ok" ∷
    codes "stored ~2 0" ∷
    codes "ok" ∷
    codes "stored ~3 3" ∷
    codes "~1 M { v: 2, r: null }" ∷
    codes "~2 M { v: 0, r: ~1 }" ∷
    codes "~3 M { v: 0, r: ~2 }" ∷
    codes "found 3" ∷
    codes "closed" ∷
    []
    )
unfolding rows
set_depths = refl

-- An inactive root is named and not written, and the walk goes on through its record.
inactive_root : then (
    codes "class M { v: i32, r: ref }" ∷
    codes "new b M { }" ∷
    codes "new a M { r: b }" ∷
    codes "store a" ∷
    []
    ) (
    codes "bind a ~2" ∷
    codes "store a" ∷
    codes "bind b ~1" ∷
    codes "activate b" ∷
    codes "let b.v = 5" ∷
    codes "store a 2" ∷
    codes "query M" ∷
    []
    ) ≡ lines (
    codes "ready" ∷
    codes "ok" ∷
    codes "stored ~2 0" ∷
    codes "ok" ∷
    codes "activated 1" ∷
    codes "ok" ∷
    codes "stored ~2 1" ∷
    codes "~1 M { v: 5, r: null }" ∷
    codes "~2 M { v: 0, r: ~1 }" ∷
    codes "found 2" ∷
    codes "closed" ∷
    []
    )
unfolding rows
inactive_root = refl

-- A record of more than 262,144 bytes is refused, and the store is as before.
long_record : run (
    codes "class W { t: text, r: ref }" ∷
    codes "new a W { }" ∷
    codes "store b" ∷
    codes "store a 65536" ∷
    []
    ) ≡ lines (
    codes "ready" ∷
    codes "ok" ∷
    codes "ok" ∷
    codes "error name" ∷
    codes "error size" ∷
    codes "closed" ∷
    []
    )
unfolding rows
long_record = refl
