-- Deactivation, refreshing and deleting over a chain of three objects.
use Rattle.std.specs.Prelude.{◌≡◌, refl, codes, ◌∷◌, []}
use Rattle.oc_machine.specs.Rows.{rows, lines, run}

-- Depth 2 makes the first two inactive. Depth 0 makes none.
deactivated_two : run (
    codes "class N { next: ref }" ∷
    codes "new c N { }" ∷
    codes "new b N { next: c }" ∷
    codes "new a N { next: b }" ∷
    codes "store a" ∷
    codes "deactivate a 0" ∷
    codes "deactivate a 2" ∷
    codes "show a" ∷
    codes "show b" ∷
    codes "show c" ∷
    []
    ) ≡ lines (
    codes "ready" ∷
    codes "ok" ∷
    codes "ok" ∷
    codes "ok" ∷
    codes "ok" ∷
    codes "stored ~3 3" ∷
    codes "deactivated 0" ∷
    codes "deactivated 2" ∷
    codes "~3 N stub" ∷
    codes "shown 1" ∷
    codes "~2 N stub" ∷
    codes "shown 1" ∷
    codes "~1 N { next: null }" ∷
    codes "shown 1" ∷
    codes "closed" ∷
    []
    )
unfolding rows
deactivated_two = refl

-- An inactive object on the way is seen by its record, and counts for nothing.
deactivated_through_records : run (
    codes "class N { next: ref }" ∷
    codes "new c N { }" ∷
    codes "new b N { next: c }" ∷
    codes "new a N { next: b }" ∷
    codes "store a" ∷
    codes "deactivate b 1" ∷
    codes "deactivate a 3" ∷
    []
    ) ≡ lines (
    codes "ready" ∷
    codes "ok" ∷
    codes "ok" ∷
    codes "ok" ∷
    codes "ok" ∷
    codes "stored ~3 3" ∷
    codes "deactivated 1" ∷
    codes "deactivated 2" ∷
    codes "closed" ∷
    []
    )
unfolding rows
deactivated_through_records = refl

-- An unsaved root stays as it is, and what it leads to becomes inactive.
deactivated_unsaved : run (
    codes "class N { next: ref }" ∷
    codes "new c N { }" ∷
    codes "new b N { next: c }" ∷
    codes "new a N { next: b }" ∷
    codes "store a" ∷
    codes "new u N { next: a }" ∷
    codes "deactivate u 2" ∷
    codes "show u" ∷
    []
    ) ≡ lines (
    codes "ready" ∷
    codes "ok" ∷
    codes "ok" ∷
    codes "ok" ∷
    codes "ok" ∷
    codes "stored ~3 3" ∷
    codes "ok" ∷
    codes "deactivated 1" ∷
    codes "~3 N stub" ∷
    codes "!4 N { next: ~3 }" ∷
    codes "shown 2" ∷
    codes "closed" ∷
    []
    )
unfolding rows
deactivated_unsaved = refl

-- Depth 2 reads the first two anew, by their records. Depth 0 reads none.
refreshed_two : run (
    codes "class N { next: ref, v: i32 }" ∷
    codes "new c N { }" ∷
    codes "new b N { next: c }" ∷
    codes "new a N { next: b }" ∷
    codes "store a" ∷
    codes "let a.v = 1" ∷
    codes "let b.v = 2" ∷
    codes "let c.v = 3" ∷
    codes "let a.next = null" ∷
    codes "refresh a 0" ∷
    codes "refresh a 2" ∷
    codes "show a" ∷
    []
    ) ≡ lines (
    codes "ready" ∷
    codes "ok" ∷
    codes "ok" ∷
    codes "ok" ∷
    codes "ok" ∷
    codes "stored ~3 3" ∷
    codes "ok" ∷
    codes "ok" ∷
    codes "ok" ∷
    codes "ok" ∷
    codes "refreshed 0" ∷
    codes "refreshed 2" ∷
    codes "~1 N { next: null, v: 3 }" ∷
    codes "~2 N { next: ~1, v: 0 }" ∷
    codes "~3 N { next: ~2, v: 0 }" ∷
    codes "shown 3" ∷
    codes "closed" ∷
    []
    )
unfolding rows
refreshed_two = refl

-- The walk of a refresh sees the record also where memory names something else.
refreshed_by_records : run (
    codes "class N { next: ref, v: i32 }" ∷
    codes "new b N { v: 2 }" ∷
    codes "new a N { next: b }" ∷
    codes "store a" ∷
    codes "new d N { v: 4 }" ∷
    codes "let a.next = d" ∷
    codes "let b.v = 5" ∷
    codes "refresh a 2" ∷
    codes "show b" ∷
    []
    ) ≡ lines (
    codes "ready" ∷
    codes "ok" ∷
    codes "ok" ∷
    codes "ok" ∷
    codes "stored ~2 2" ∷
    codes "ok" ∷
    codes "ok" ∷
    codes "ok" ∷
    codes "refreshed 2" ∷
    codes "~1 N { next: null, v: 2 }" ∷
    codes "shown 1" ∷
    codes "closed" ∷
    []
    )
unfolding rows
refreshed_by_records = refl

refreshed_unsaved : run (
    codes "class N { next: ref }" ∷
    codes "new a N { }" ∷
    codes "refresh a 1" ∷
    codes "refresh a 65536" ∷
    codes "refresh b 1" ∷
    []
    ) ≡ lines (
    codes "ready" ∷
    codes "ok" ∷
    codes "ok" ∷
    codes "error live" ∷
    codes "error size" ∷
    codes "error name" ∷
    codes "closed" ∷
    []
    )
unfolding rows
refreshed_unsaved = refl

-- Without a cascade a delete takes the root alone. Its object keeps its values.
deleted_alone : run (
    codes "class N { next: ref }" ∷
    codes "new c N { }" ∷
    codes "new b N { next: c }" ∷
    codes "new a N { next: b }" ∷
    codes "store a" ∷
    codes "delete a" ∷
    codes "query N" ∷
    codes "show a" ∷
    []
    ) ≡ lines (
    codes "ready" ∷
    codes "ok" ∷
    codes "ok" ∷
    codes "ok" ∷
    codes "ok" ∷
    codes "stored ~3 3" ∷
    codes "deleted 1" ∷
    codes "~1 N { next: null }" ∷
    codes "~2 N { next: ~1 }" ∷
    codes "found 2" ∷
    codes "~1 N { next: null }" ∷
    codes "~2 N { next: ~1 }" ∷
    codes "!3 N { next: ~2 }" ∷
    codes "shown 3" ∷
    codes "closed" ∷
    []
    )
unfolding rows
deleted_alone = refl

-- With a cascade it goes on, through inactive and through unsaved objects too.
deleted_all : run (
    codes "class N { next: ref }" ∷
    codes "new d N { }" ∷
    codes "new c N { next: d }" ∷
    codes "store c" ∷
    codes "new b N { next: c }" ∷
    codes "new a N { }" ∷
    codes "store a" ∷
    codes "let a.next = b" ∷
    codes "deactivate c 1" ∷
    codes "config N.cascade_delete on" ∷
    codes "delete a" ∷
    codes "names" ∷
    codes "delete a" ∷
    []
    ) ≡ lines (
    codes "ready" ∷
    codes "ok" ∷
    codes "ok" ∷
    codes "ok" ∷
    codes "stored ~2 2" ∷
    codes "ok" ∷
    codes "ok" ∷
    codes "stored ~3 1" ∷
    codes "ok" ∷
    codes "deactivated 1" ∷
    codes "ok" ∷
    codes "deleted 3" ∷
    codes "d !1 unsaved" ∷
    codes "c !2 unsaved" ∷
    codes "b !3 unsaved" ∷
    codes "a !4 unsaved" ∷
    codes "names 4" ∷
    codes "error live" ∷
    codes "closed" ∷
    []
    )
unfolding rows
deleted_all = refl

-- What a delete takes out is unsaved, and what names it in memory names it still. A store gives it a new number.
detached_by_delete : run (
    codes "class A { r: ref }" ∷
    codes "new x A { }" ∷
    codes "new y A { }" ∷
    codes "new z A { }" ∷
    codes "let x.r = y" ∷
    codes "let z.r = y" ∷
    codes "store x" ∷
    codes "store z" ∷
    codes "config A.cascade_delete on" ∷
    codes "delete x" ∷
    codes "query A" ∷
    codes "show z" ∷
    codes "store z" ∷
    codes "query A" ∷
    []
    ) ≡ lines (
    codes "ready" ∷
    codes "ok" ∷
    codes "ok" ∷
    codes "ok" ∷
    codes "ok" ∷
    codes "ok" ∷
    codes "ok" ∷
    codes "stored ~1 2" ∷
    codes "stored ~3 1" ∷
    codes "ok" ∷
    codes "deleted 2" ∷
    codes "~3 A { r: null }" ∷
    codes "found 1" ∷
    codes "!2 A { r: null }" ∷
    codes "~3 A { r: !2 }" ∷
    codes "shown 2" ∷
    codes "stored ~3 2" ∷
    codes "~3 A { r: ~4 }" ∷
    codes "~4 A { r: null }" ∷
    codes "found 2" ∷
    codes "closed" ∷
    []
    )
unfolding rows
detached_by_delete = refl
