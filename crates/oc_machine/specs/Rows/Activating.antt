-- Activation: the graph cut at its depth.
use Rattle.std.specs.Prelude.{◌≡◌, refl, codes, ◌∷◌, []}
use Rattle.oc_machine.specs.Rows.{rows, lines, run, then}

-- seven objects in a chain, stored from the first
seven_stored : run (
    codes "class Node { next: ref }" ∷
    codes "new n1 Node { }" ∷
    codes "new n2 Node { }" ∷
    codes "new n3 Node { }" ∷
    codes "new n4 Node { }" ∷
    codes "new n5 Node { }" ∷
    codes "new n6 Node { }" ∷
    codes "new n7 Node { }" ∷
    codes "let n1.next = n2" ∷
    codes "let n2.next = n3" ∷
    codes "let n3.next = n4" ∷
    codes "let n4.next = n5" ∷
    codes "let n5.next = n6" ∷
    codes "let n6.next = n7" ∷
    codes "store n1" ∷
    []
    ) ≡ lines (
    codes "ready" ∷
    codes "ok" ∷
    codes "ok" ∷
    codes "ok" ∷
    codes "ok" ∷
    codes "ok" ∷
    codes "ok" ∷
    codes "ok" ∷
    codes "ok" ∷
    codes "ok" ∷
    codes "ok" ∷
    codes "ok" ∷
    codes "ok" ∷
    codes "ok" ∷
    codes "ok" ∷
    codes "stored ~1 7" ∷
    codes "closed" ∷
    []
    )
unfolding rows
seven_stored = refl

-- Five become active, the sixth has a live object, and the seventh has none.
default_depth : then (
    codes "class Node { next: ref }" ∷
    codes "new n1 Node { }" ∷
    codes "new n2 Node { }" ∷
    codes "new n3 Node { }" ∷
    codes "new n4 Node { }" ∷
    codes "new n5 Node { }" ∷
    codes "new n6 Node { }" ∷
    codes "new n7 Node { }" ∷
    codes "let n1.next = n2" ∷
    codes "let n2.next = n3" ∷
    codes "let n3.next = n4" ∷
    codes "let n4.next = n5" ∷
    codes "let n5.next = n6" ∷
    codes "let n6.next = n7" ∷
    codes "store n1" ∷
    []
    ) (
    codes "bind n ~1" ∷
    codes "activate n" ∷
    codes "show n" ∷
    []
    ) ≡ lines (
    codes "ready" ∷
    codes "ok" ∷
    codes "activated 5" ∷
    codes "~1 Node { next: ~2 }" ∷
    codes "~2 Node { next: ~3 }" ∷
    codes "~3 Node { next: ~4 }" ∷
    codes "~4 Node { next: ~5 }" ∷
    codes "~5 Node { next: ~6 }" ∷
    codes "~6 Node stub" ∷
    codes "shown 6" ∷
    codes "closed" ∷
    []
    )
unfolding rows
default_depth = refl

-- depth 0 reaches nothing
depth_nothing : then (
    codes "class Node { next: ref }" ∷
    codes "new n1 Node { }" ∷
    codes "new n2 Node { }" ∷
    codes "new n3 Node { }" ∷
    codes "new n4 Node { }" ∷
    codes "new n5 Node { }" ∷
    codes "new n6 Node { }" ∷
    codes "new n7 Node { }" ∷
    codes "let n1.next = n2" ∷
    codes "let n2.next = n3" ∷
    codes "let n3.next = n4" ∷
    codes "let n4.next = n5" ∷
    codes "let n5.next = n6" ∷
    codes "let n6.next = n7" ∷
    codes "store n1" ∷
    []
    ) (
    codes "bind n ~1" ∷
    codes "activate n 0" ∷
    codes "show n" ∷
    []
    ) ≡ lines (
    codes "ready" ∷
    codes "ok" ∷
    codes "activated 0" ∷
    codes "~1 Node stub" ∷
    codes "shown 1" ∷
    codes "closed" ∷
    []
    )
unfolding rows
depth_nothing = refl

-- Each step hands on one less: depth 2 reaches two of a chain.
one_less_each_time : then (
    codes "class Node { next: ref }" ∷
    codes "new n1 Node { }" ∷
    codes "new n2 Node { }" ∷
    codes "new n3 Node { }" ∷
    codes "new n4 Node { }" ∷
    codes "new n5 Node { }" ∷
    codes "new n6 Node { }" ∷
    codes "new n7 Node { }" ∷
    codes "let n1.next = n2" ∷
    codes "let n2.next = n3" ∷
    codes "let n3.next = n4" ∷
    codes "let n4.next = n5" ∷
    codes "let n5.next = n6" ∷
    codes "let n6.next = n7" ∷
    codes "store n1" ∷
    []
    ) (
    codes "bind n ~1" ∷
    codes "activate n 2" ∷
    codes "activate n 2" ∷
    codes "activate n 3" ∷
    []
    ) ≡ lines (
    codes "ready" ∷
    codes "ok" ∷
    codes "activated 2" ∷
    codes "activated 0" ∷
    codes "activated 1" ∷
    codes "closed" ∷
    []
    )
unfolding rows
one_less_each_time = refl

-- two objects that name each other
a_cycle : then (
    codes "class Node { next: ref }" ∷
    codes "new a Node { }" ∷
    codes "new b Node { }" ∷
    codes "let a.next = b" ∷
    codes "let b.next = a" ∷
    codes "store a" ∷
    []
    ) (
    codes "bind a ~1" ∷
    codes "activate a 3" ∷
    codes "show a" ∷
    []
    ) ≡ lines (
    codes "ready" ∷
    codes "ok" ∷
    codes "activated 2" ∷
    codes "~1 Node { next: ~2 }" ∷
    codes "~2 Node { next: ~1 }" ∷
    codes "shown 2" ∷
    codes "closed" ∷
    []
    )
unfolding rows
a_cycle = refl

-- A class that cascades hands on 1 at least.
a_cascade : then (
    codes "class P { next: ref }" ∷
    codes "class N { next: ref }" ∷
    codes "new a P { }" ∷
    codes "new b P { }" ∷
    codes "new c N { }" ∷
    codes "new d N { }" ∷
    codes "let a.next = b" ∷
    codes "let b.next = c" ∷
    codes "let c.next = d" ∷
    codes "store a" ∷
    []
    ) (
    codes "config P.cascade_activate on" ∷
    codes "bind a ~1" ∷
    codes "activate a 1" ∷
    codes "show a" ∷
    []
    ) ≡ lines (
    codes "ready" ∷
    codes "ok" ∷
    codes "ok" ∷
    codes "activated 3" ∷
    codes "~1 P { next: ~2 }" ∷
    codes "~2 P { next: ~3 }" ∷
    codes "~3 N { next: ~4 }" ∷
    codes "~4 N stub" ∷
    codes "shown 4" ∷
    codes "closed" ∷
    []
    )
unfolding rows
a_cascade = refl

-- An object is reached with the greatest budget of all paths, not with that of the first.
greatest_budget : then (
    codes "class N { a: ref, b: ref }" ∷
    codes "new a N { }" ∷
    codes "new b N { }" ∷
    codes "new c N { }" ∷
    codes "new d N { }" ∷
    codes "new e N { }" ∷
    codes "new f N { }" ∷
    codes "let a.a = b" ∷
    codes "let a.b = d" ∷
    codes "let b.a = c" ∷
    codes "let c.a = d" ∷
    codes "let d.a = e" ∷
    codes "let e.a = f" ∷
    codes "store a" ∷
    []
    ) (
    codes "bind x ~1" ∷
    codes "activate x 4" ∷
    []
    ) ≡ lines (
    codes "ready" ∷
    codes "ok" ∷
    codes "activated 6" ∷
    codes "closed" ∷
    []
    )
unfolding rows
greatest_budget = refl

-- A minimum raises every arrival, that of the root and one of 0 too. Where it is over the maximum, the maximum wins. The settings are those of the own class.
minimum_and_maximum : then (
    codes "class A { next: ref }" ∷
    codes "class B : A { }" ∷
    codes "new d B { }" ∷
    codes "new c A { next: d }" ∷
    codes "new b B { next: c }" ∷
    codes "new a A { next: b }" ∷
    codes "store a" ∷
    []
    ) (
    codes "config A.minimum 1" ∷
    codes "bind a ~4" ∷
    codes "activate a 0" ∷
    codes "show a" ∷
    codes "config B.minimum 3" ∷
    codes "config B.maximum 2" ∷
    codes "activate a 1" ∷
    codes "show a" ∷
    []
    ) ≡ lines (
    codes "ready" ∷
    codes "ok" ∷
    codes "ok" ∷
    codes "activated 1" ∷
    codes "~4 A { next: ~3 }" ∷
    codes "~3 B stub" ∷
    codes "shown 2" ∷
    codes "ok" ∷
    codes "ok" ∷
    codes "activated 3" ∷
    codes "~4 A { next: ~3 }" ∷
    codes "~3 B { next: ~2 }" ∷
    codes "~1 B { next: null }" ∷
    codes "~2 A { next: ~1 }" ∷
    codes "shown 4" ∷
    codes "closed" ∷
    []
    )
unfolding rows
minimum_and_maximum = refl

-- An unsaved root may be activated, and a minimum raises it too. What it leads to becomes active.
unsaved_on_the_way : then (
    codes "class N { next: ref, v: i32 }" ∷
    codes "new b N { v: 2 }" ∷
    codes "new a N { next: b, v: 1 }" ∷
    codes "store a" ∷
    []
    ) (
    codes "config N.minimum 1" ∷
    codes "new u N { next: ~2 }" ∷
    codes "activate u 0" ∷
    codes "show u" ∷
    []
    ) ≡ lines (
    codes "ready" ∷
    codes "ok" ∷
    codes "ok" ∷
    codes "activated 2" ∷
    codes "~2 N { next: ~1, v: 1 }" ∷
    codes "!2 N { next: ~2, v: 0 }" ∷
    codes "~1 N { next: null, v: 2 }" ∷
    codes "shown 3" ∷
    codes "closed" ∷
    []
    )
unfolding rows
unsaved_on_the_way = refl

-- New handles are given by ascending number, to what becomes active and to what is merely named alike.
handles_by_number : then (
    codes "class N { a: ref, b: ref }" ∷
    codes "new x N { }" ∷
    codes "new y N { }" ∷
    codes "new z N { a: y, b: x }" ∷
    codes "new w N { a: z }" ∷
    codes "store w" ∷
    []
    ) (
    codes "bind w ~4" ∷
    codes "activate w 2" ∷
    codes "config N.cascade_delete on" ∷
    codes "delete w" ∷
    codes "show w" ∷
    []
    ) ≡ lines (
    codes "ready" ∷
    codes "ok" ∷
    codes "activated 2" ∷
    codes "ok" ∷
    codes "deleted 4" ∷
    codes "!1 N { a: !4, b: null }" ∷
    codes "!2 N { a: null, b: null }" ∷
    codes "!3 N { a: null, b: null }" ∷
    codes "!4 N { a: !3, b: !2 }" ∷
    codes "shown 4" ∷
    codes "closed" ∷
    []
    )
unfolding rows
handles_by_number = refl

-- Activation leaves what is active as it is, and gives no live object for what its record names. A refresh does both.
active_ones_stay : then (
    codes "class N { next: ref, v: i32 }" ∷
    codes "new b N { v: 2 }" ∷
    codes "new a N { next: b, v: 1 }" ∷
    codes "store a" ∷
    []
    ) (
    codes "bind a ~2" ∷
    codes "activate a 1" ∷
    codes "let a.v = 7" ∷
    codes "bind b a.next" ∷
    codes "purge b" ∷
    codes "activate a 1" ∷
    codes "show a" ∷
    codes "refresh a 1" ∷
    codes "show a" ∷
    []
    ) ≡ lines (
    codes "ready" ∷
    codes "ok" ∷
    codes "activated 1" ∷
    codes "ok" ∷
    codes "ok" ∷
    codes "ok" ∷
    codes "activated 0" ∷
    codes "~2 N { next: !2, v: 7 }" ∷
    codes "!2 N { next: null, v: 0 }" ∷
    codes "shown 2" ∷
    codes "refreshed 1" ∷
    codes "~2 N { next: ~1, v: 1 }" ∷
    codes "~1 N stub" ∷
    codes "shown 2" ∷
    codes "closed" ∷
    []
    )
unfolding rows
active_ones_stay = refl

-- Walks see the current fields of a record and not its past entries.
past_entries : then (
    codes "class N { next: ref, v: i32 }" ∷
    codes "new b N { v: 2 }" ∷
    codes "new a N { next: b, v: 1 }" ∷
    codes "store a" ∷
    []
    ) (
    codes "class N { other: ref, v: i32 }" ∷
    codes "bind a ~2" ∷
    codes "activate a" ∷
    codes "show a" ∷
    []
    ) ≡ lines (
    codes "ready" ∷
    codes "ok" ∷
    codes "ok" ∷
    codes "activated 1" ∷
    codes "~2 N { other: null, v: 1 }" ∷
    codes "shown 1" ∷
    codes "closed" ∷
    []
    )
unfolding rows
past_entries = refl

-- A dangling reference is null in an object that becomes active.
dangling : then (
    codes "class N { next: ref, v: i32 }" ∷
    codes "new b N { v: 2 }" ∷
    codes "new a N { next: b, v: 1 }" ∷
    codes "store a" ∷
    []
    ) (
    codes "bind b ~1" ∷
    codes "delete b" ∷
    codes "bind a ~2" ∷
    codes "activate a" ∷
    codes "show a" ∷
    codes "bind c a.next" ∷
    []
    ) ≡ lines (
    codes "ready" ∷
    codes "ok" ∷
    codes "deleted 1" ∷
    codes "ok" ∷
    codes "activated 1" ∷
    codes "~2 N { next: null, v: 1 }" ∷
    codes "shown 1" ∷
    codes "error live" ∷
    codes "closed" ∷
    []
    )
unfolding rows
dangling = refl
