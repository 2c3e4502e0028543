-- Commit and rollback.
use Rattle.std.specs.Prelude.{◌≡◌, refl, codes, ◌∷◌, []}
use Rattle.oc_machine.specs.Rows.{rows, lines, run}

-- After a rollback an object that isn't committed is unsaved, and its number is used again.
numbers_again : run (
    codes "class M { v: i32 }" ∷
    codes "commit" ∷
    codes "new a M { v: 5 }" ∷
    codes "store a" ∷
    codes "rollback" ∷
    codes "names" ∷
    codes "store a" ∷
    []
    ) ≡ lines (
    codes "ready" ∷
    codes "ok" ∷
    codes "committed 1" ∷
    codes "ok" ∷
    codes "stored ~1 1" ∷
    codes "rolled back" ∷
    codes "a !1 unsaved" ∷
    codes "names 1" ∷
    codes "stored ~1 1" ∷
    codes "closed" ∷
    []
    )
unfolding rows
numbers_again = refl

-- A rollback takes back the classes too.
schema_rolled_back : run (
    codes "class A { r: ref, s: [text] }" ∷
    codes "class B : A { b: bool }" ∷
    codes "make B { r: ~9 }" ∷
    codes "make B { s: [\"x\", null], b: true }" ∷
    codes "rollback" ∷
    codes "query A" ∷
    []
    ) ≡ lines (
    codes "ready" ∷
    codes "ok" ∷
    codes "ok" ∷
    codes "error live" ∷
    codes "stored ~1 1" ∷
    codes "rolled back" ∷
    codes "error class" ∷
    codes "closed" ∷
    []
    )
unfolding rows
schema_rolled_back = refl

-- A retyped field reads its default, and where the schema differs a rollback forgets all names and objects.
kinds_rolled_back : run (
    codes "class K { v: i32 }" ∷
    codes "new a K { v: 1 }" ∷
    codes "store a" ∷
    codes "commit" ∷
    codes "class K { w: i32 }" ∷
    codes "query K" ∷
    codes "show a" ∷
    codes "class K { v: i32 }" ∷
    codes "query K" ∷
    codes "convert K.v from i32" ∷
    codes "rename K to Q" ∷
    codes "query K" ∷
    codes "rollback" ∷
    codes "names" ∷
    codes "query K" ∷
    []
    ) ≡ lines (
    codes "ready" ∷
    codes "ok" ∷
    codes "ok" ∷
    codes "stored ~1 1" ∷
    codes "committed 1" ∷
    codes "ok" ∷
    codes "~1 K { w: 0 }" ∷
    codes "found 1" ∷
    codes "~1 K stub" ∷
    codes "shown 1" ∷
    codes "ok" ∷
    codes "~1 K { v: 1 }" ∷
    codes "found 1" ∷
    codes "error past" ∷
    codes "ok" ∷
    codes "error class" ∷
    codes "rolled back" ∷
    codes "names 0" ∷
    codes "~1 K { v: 1 }" ∷
    codes "found 1" ∷
    codes "closed" ∷
    []
    )
unfolding rows
kinds_rolled_back = refl

-- Whether the schema differs is asked of all of it: an index alone, or the next field's id.
whole_schemas : run (
    codes "class K { v: i32 }" ∷
    codes "new a K { }" ∷
    codes "commit" ∷
    codes "names" ∷
    codes "index K.v" ∷
    codes "rollback" ∷
    codes "names" ∷
    codes "new a K { }" ∷
    codes "class L { }" ∷
    codes "rollback" ∷
    codes "names" ∷
    codes "new a K { }" ∷
    codes "show a" ∷
    codes "rollback" ∷
    codes "names" ∷
    []
    ) ≡ lines (
    codes "ready" ∷
    codes "ok" ∷
    codes "ok" ∷
    codes "committed 1" ∷
    codes "a !1 unsaved" ∷
    codes "names 1" ∷
    codes "ok" ∷
    codes "rolled back" ∷
    codes "names 0" ∷
    codes "ok" ∷
    codes "ok" ∷
    codes "rolled back" ∷
    codes "names 0" ∷
    codes "ok" ∷
    codes "!3 K { v: 0 }" ∷
    codes "shown 1" ∷
    codes "rolled back" ∷
    codes "a !3 unsaved" ∷
    codes "names 1" ∷
    codes "closed" ∷
    []
    )
unfolding rows
whole_schemas = refl

-- The settings of classes that the committed schema hasn't go back to the defaults, and those of others stay.
settings_rolled_back : run (
    codes "class A { r: ref, v: i32 }" ∷
    codes "commit" ∷
    codes "class B { r: ref, v: i32 }" ∷
    codes "config A.update 0" ∷
    codes "config B.update 0" ∷
    codes "rollback" ∷
    codes "class B { r: ref, v: i32 }" ∷
    codes "new a A { }" ∷
    codes "store a" ∷
    codes "let a.v = 1" ∷
    codes "store a" ∷
    codes "new b B { }" ∷
    codes "store b" ∷
    codes "let b.v = 1" ∷
    codes "store b" ∷
    []
    ) ≡ lines (
    codes "ready" ∷
    codes "ok" ∷
    codes "committed 1" ∷
    codes "ok" ∷
    codes "ok" ∷
    codes "ok" ∷
    codes "rolled back" ∷
    codes "ok" ∷
    codes "ok" ∷
    codes "stored ~1 1" ∷
    codes "ok" ∷
    codes "stored ~1 0" ∷
    codes "ok" ∷
    codes "stored ~2 1" ∷
    codes "ok" ∷
    codes "stored ~2 1" ∷
    codes "closed" ∷
    []
    )
unfolding rows
settings_rolled_back = refl

-- A rollback puts back no values in memory, and detaches no object that is committed.
values_stay : run (
    codes "class M { v: i32 }" ∷
    codes "new a M { v: 1 }" ∷
    codes "store a" ∷
    codes "commit" ∷
    codes "let a.v = 2" ∷
    codes "store a" ∷
    codes "rollback" ∷
    codes "query M" ∷
    codes "show a" ∷
    codes "names" ∷
    []
    ) ≡ lines (
    codes "ready" ∷
    codes "ok" ∷
    codes "ok" ∷
    codes "stored ~1 1" ∷
    codes "committed 1" ∷
    codes "ok" ∷
    codes "stored ~1 1" ∷
    codes "rolled back" ∷
    codes "~1 M { v: 1 }" ∷
    codes "found 1" ∷
    codes "~1 M { v: 2 }" ∷
    codes "shown 1" ∷
    codes "a ~1 active" ∷
    codes "names 1" ∷
    codes "closed" ∷
    []
    )
unfolding rows
values_stay = refl

-- A peek looks at one of the two stores.
both_sides : run (
    codes "class N { next: ref }" ∷
    codes "new a N { }" ∷
    codes "new b N { }" ∷
    codes "let a.next = b" ∷
    codes "store a" ∷
    codes "peek a 1 committed" ∷
    codes "commit" ∷
    codes "peek ~1 1 committed" ∷
    codes "activate a" ∷
    codes "bind c a.next" ∷
    codes "names" ∷
    codes "bind d c.next" ∷
    codes "let b.next = a" ∷
    codes "activate b" ∷
    codes "show b" ∷
    codes "refresh b 1" ∷
    codes "show b" ∷
    []
    ) ≡ lines (
    codes "ready" ∷
    codes "ok" ∷
    codes "ok" ∷
    codes "ok" ∷
    codes "ok" ∷
    codes "stored ~1 2" ∷
    codes "error live" ∷
    codes "committed 1" ∷
    codes "~1 N { next: ~2 }" ∷
    codes "peeked 1" ∷
    codes "activated 0" ∷
    codes "ok" ∷
    codes "a ~1 active" ∷
    codes "b ~2 active" ∷
    codes "c ~2 active" ∷
    codes "names 3" ∷
    codes "error live" ∷
    codes "ok" ∷
    codes "activated 0" ∷
    codes "~1 N { next: ~2 }" ∷
    codes "~2 N { next: ~1 }" ∷
    codes "shown 2" ∷
    codes "refreshed 1" ∷
    codes "~2 N { next: null }" ∷
    codes "shown 1" ∷
    codes "closed" ∷
    []
    )
unfolding rows
both_sides = refl

-- A peek hands on one less, and sees the records of its side under the schema of its side. At depth 0 it shows nothing, and asks for the object all the same.
peeks : run (
    codes "class N { next: ref }" ∷
    codes "new c N { }" ∷
    codes "new b N { next: c }" ∷
    codes "new a N { next: b }" ∷
    codes "store a" ∷
    codes "commit" ∷
    codes "rename N.next to after" ∷
    codes "let a.after = null" ∷
    codes "store a" ∷
    codes "peek a 2 committed" ∷
    codes "peek a 2 session" ∷
    codes "peek ~3 0 session" ∷
    codes "peek ~4 0 session" ∷
    codes "peek ~3 65536 session" ∷
    codes "peek z 65536 session" ∷
    codes "peek z 0 session" ∷
    codes "peek ~0 1 session" ∷
    []
    ) ≡ lines (
    codes "ready" ∷
    codes "ok" ∷
    codes "ok" ∷
    codes "ok" ∷
    codes "ok" ∷
    codes "stored ~3 3" ∷
    codes "committed 1" ∷
    codes "ok" ∷
    codes "ok" ∷
    codes "stored ~3 1" ∷
    codes "~2 N { next: ~1 }" ∷
    codes "~3 N { next: ~2 }" ∷
    codes "peeked 2" ∷
    codes "~3 N { after: null }" ∷
    codes "peeked 1" ∷
    codes "peeked 0" ∷
    codes "error live" ∷
    codes "error size" ∷
    codes "error size" ∷
    codes "error name" ∷
    codes "error live" ∷
    codes "closed" ∷
    []
    )
unfolding rows
peeks = refl
