-- Changed classes, renames, conversions and indexes.
use Rattle.std.specs.Prelude.{◌≡◌, refl, codes, ◌∷◌, []}
use Rattle.oc_machine.specs.Rows.{rows, lines, run}

refusals : run (
    codes "clas X" ∷
    codes "class A { a: i8 }" ∷
    codes "class A { a: i8, a: i16 }" ∷
    codes "class B : A { a: i32 }" ∷
    codes "class A : A { }" ∷
    codes "make Z { }" ∷
    codes "make A { b: 1 }" ∷
    codes "make A { a: 128 }" ∷
    codes "make A { a: -128 }" ∷
    codes "convert A.a from text" ∷
    codes "rename A.a to a" ∷
    codes "rename A.a to k" ∷
    codes "index A.k" ∷
    codes "unindex A.k" ∷
    codes "config A.minimum 65536" ∷
    codes "query A where a = 1" ∷
    []
    ) ≡ lines (
    codes "ready" ∷
    codes "error syntax" ∷
    codes "ok" ∷
    codes "error exists" ∷
    codes "error exists" ∷
    codes "error parent" ∷
    codes "error class" ∷
    codes "error field" ∷
    codes "error kind" ∷
    codes "stored ~1 1" ∷
    codes "error past" ∷
    codes "error exists" ∷
    codes "ok" ∷
    codes "ok" ∷
    codes "ok" ∷
    codes "error size" ∷
    codes "error field" ∷
    codes "closed" ∷
    []
    )
unfolding rows
refusals = refl

-- A value is converted where there is one, else the record stays.
conversions : run (
    codes "class K { v: i32 }" ∷
    codes "make K { v: 100 }" ∷
    codes "class K { v: text }" ∷
    codes "query K" ∷
    codes "convert K.v from i32" ∷
    codes "query K" ∷
    codes "class S { t: text }" ∷
    codes "make S { t: \"12x\" }" ∷
    codes "class S { t: i32 }" ∷
    codes "convert S.t from text" ∷
    codes "query S" ∷
    []
    ) ≡ lines (
    codes "ready" ∷
    codes "ok" ∷
    codes "stored ~1 1" ∷
    codes "ok" ∷
    codes "~1 K { v: null }" ∷
    codes "found 1" ∷
    codes "converted 1" ∷
    codes "~1 K { v: \"100\" }" ∷
    codes "found 1" ∷
    codes "ok" ∷
    codes "stored ~2 1" ∷
    codes "ok" ∷
    codes "converted 0" ∷
    codes "~2 S { t: 0 }" ∷
    codes "found 1" ∷
    codes "closed" ∷
    []
    )
unfolding rows
conversions = refl

-- the kinds u64 and i128
wide_kinds : run (
    codes "class W { a: u64, b: i128, c: [u64] }" ∷
    codes "make W { a: 18446744073709551615, b: -170141183460469231731687303715884105728, c: [0, 1] }" ∷
    codes "make W { a: 18446744073709551616 }" ∷
    codes "make W { a: -1 }" ∷
    codes "make W { c: [-1] }" ∷
    codes "query W where a > 9223372036854775807" ∷
    codes "query W order b asc" ∷
    codes "class W { a: i64, b: i128, c: [text] }" ∷
    codes "convert W.a from u64" ∷
    codes "convert W.c from [u64]" ∷
    codes "query W" ∷
    []
    ) ≡ lines (
    codes "ready" ∷
    codes "ok" ∷
    codes "stored ~1 1" ∷
    codes "error kind" ∷
    codes "error kind" ∷
    codes "error kind" ∷
    codes "~1 W { a: 18446744073709551615, b: -170141183460469231731687303715884105728, c: [0, 1] }" ∷
    codes "found 1" ∷
    codes "~1 W { a: 18446744073709551615, b: -170141183460469231731687303715884105728, c: [0, 1] }" ∷
    codes "found 1" ∷
    codes "ok" ∷
    codes "converted 0" ∷
    codes "converted 1" ∷
    codes "~1 W { a: 0, b: -170141183460469231731687303715884105728, c: [\"0\", \"1\"] }" ∷
    codes "found 1" ∷
    codes "closed" ∷
    []
    )
unfolding rows
wide_kinds = refl

-- The greatest u64 doesn't fit i64, and is the text of its digits.
two_kinds_more : run (
    codes "class U { a: u64, b: i128 }" ∷
    codes "make U { a: 18446744073709551615, b: -170141183460469231731687303715884105728 }" ∷
    codes "query U" ∷
    codes "make U { a: -1 }" ∷
    codes "make U { b: 170141183460469231731687303715884105728 }" ∷
    codes "class U { a: i64, b: i128 }" ∷
    codes "convert U.a from u64" ∷
    codes "class U { a: text, b: i128 }" ∷
    codes "convert U.a from u64" ∷
    codes "query U where a = \"18446744073709551615\"" ∷
    []
    ) ≡ lines (
    codes "ready" ∷
    codes "ok" ∷
    codes "stored ~1 1" ∷
    codes "~1 U { a: 18446744073709551615, b: -170141183460469231731687303715884105728 }" ∷
    codes "found 1" ∷
    codes "error kind" ∷
    codes "error syntax" ∷
    codes "ok" ∷
    codes "converted 0" ∷
    codes "ok" ∷
    codes "converted 1" ∷
    codes "~1 U { a: \"18446744073709551615\", b: -170141183460469231731687303715884105728 }" ∷
    codes "found 1" ∷
    codes "closed" ∷
    []
    )
unfolding rows
two_kinds_more = refl

-- The parent is looked up first. A new class is no parent of its own.
parents : run (
    codes "class A : A { }" ∷
    codes "class A { }" ∷
    codes "class B : A { b: i8 }" ∷
    codes "class B : X { }" ∷
    codes "class B { }" ∷
    codes "class A : B { }" ∷
    codes "class B : A { b: i16 }" ∷
    codes "class A { b: i8 }" ∷
    codes "class C : B { b: i8 }" ∷
    codes "class C : B { c: i8 }" ∷
    codes "class A { c: i8 }" ∷
    []
    ) ≡ lines (
    codes "ready" ∷
    codes "error class" ∷
    codes "ok" ∷
    codes "ok" ∷
    codes "error class" ∷
    codes "error parent" ∷
    codes "error parent" ∷
    codes "ok" ∷
    codes "error exists" ∷
    codes "error exists" ∷
    codes "ok" ∷
    codes "error exists" ∷
    codes "closed" ∷
    []
    )
unfolding rows
parents = refl

-- Stored objects of a class that changed become inactive, those of classes below it too. An unsaved one loses what is no field any more. Where nothing changes, nothing does.
live_objects_of_a_changed_class : run (
    codes "class A { a: i8, b: i8 }" ∷
    codes "class B : A { }" ∷
    codes "new s B { a: 1, b: 2 }" ∷
    codes "store s" ∷
    codes "new u B { a: 3, b: 4 }" ∷
    codes "class A { a: i8, b: i8 }" ∷
    codes "names" ∷
    codes "class A { b: i8, a: i8 }" ∷
    codes "names" ∷
    codes "activate s" ∷
    codes "class A { b: i8, c: text }" ∷
    codes "show u" ∷
    codes "show s" ∷
    codes "activate s" ∷
    codes "show s" ∷
    []
    ) ≡ lines (
    codes "ready" ∷
    codes "ok" ∷
    codes "ok" ∷
    codes "ok" ∷
    codes "stored ~1 1" ∷
    codes "ok" ∷
    codes "ok" ∷
    codes "s ~1 active" ∷
    codes "u !2 unsaved" ∷
    codes "names 2" ∷
    codes "ok" ∷
    codes "s ~1 stub" ∷
    codes "u !2 unsaved" ∷
    codes "names 2" ∷
    codes "activated 1" ∷
    codes "ok" ∷
    codes "!2 B { b: 4, c: null }" ∷
    codes "shown 1" ∷
    codes "~1 B stub" ∷
    codes "shown 1" ∷
    codes "activated 1" ∷
    codes "~1 B { b: 2, c: null }" ∷
    codes "shown 1" ∷
    codes "closed" ∷
    []
    )
unfolding rows
live_objects_of_a_changed_class = refl

-- A conversion makes stored objects inactive, also where it converts nothing. Renames and indexes change no object.
live_objects_of_other_lines : run (
    codes "class A { a: i8, xs: [i8] }" ∷
    codes "new s A { a: 1 }" ∷
    codes "store s" ∷
    codes "rename A to B" ∷
    codes "rename B.a to b" ∷
    codes "index B.b" ∷
    codes "index B.xs" ∷
    codes "unindex B.xs" ∷
    codes "unindex B.b" ∷
    codes "names" ∷
    codes "class B { b: i16, xs: [i8] }" ∷
    codes "activate s" ∷
    codes "convert B.b from i8" ∷
    codes "names" ∷
    codes "activate s" ∷
    codes "convert B.b from i8" ∷
    codes "names" ∷
    codes "query B" ∷
    codes "rename B to B" ∷
    codes "rename Z to Q" ∷
    codes "rename B.z to q" ∷
    codes "rename B.b to xs" ∷
    []
    ) ≡ lines (
    codes "ready" ∷
    codes "ok" ∷
    codes "ok" ∷
    codes "stored ~1 1" ∷
    codes "ok" ∷
    codes "ok" ∷
    codes "ok" ∷
    codes "error kind" ∷
    codes "ok" ∷
    codes "ok" ∷
    codes "s ~1 active" ∷
    codes "names 1" ∷
    codes "ok" ∷
    codes "activated 1" ∷
    codes "converted 1" ∷
    codes "s ~1 stub" ∷
    codes "names 1" ∷
    codes "activated 1" ∷
    codes "converted 0" ∷
    codes "s ~1 stub" ∷
    codes "names 1" ∷
    codes "~1 B { b: 1, xs: null }" ∷
    codes "found 1" ∷
    codes "error exists" ∷
    codes "error class" ∷
    codes "error field" ∷
    codes "error exists" ∷
    codes "closed" ∷
    []
    )
unfolding rows
live_objects_of_other_lines = refl

refusals_of_refactoring : run (
    codes "class A { a: i8 }" ∷
    codes "class B : A { b: i8 }" ∷
    codes "rename B.a to c" ∷
    codes "index B.a" ∷
    codes "index B.c" ∷
    codes "index Z.a" ∷
    codes "convert Z.a from i8" ∷
    codes "convert B.a from i8" ∷
    codes "convert A.a from i8" ∷
    codes "rename A.a to b" ∷
    codes "rename B.b to a" ∷
    codes "class B : A { b: i16 }" ∷
    codes "class B : A { b: text }" ∷
    codes "class B : A { b: i64 }" ∷
    codes "convert B.b from i8" ∷
    codes "convert B.b from i16" ∷
    codes "convert B.b from [i8]" ∷
    []
    ) ≡ lines (
    codes "ready" ∷
    codes "ok" ∷
    codes "ok" ∷
    codes "error field" ∷
    codes "ok" ∷
    codes "error field" ∷
    codes "error class" ∷
    codes "error class" ∷
    codes "error field" ∷
    codes "error past" ∷
    codes "error exists" ∷
    codes "error exists" ∷
    codes "ok" ∷
    codes "ok" ∷
    codes "ok" ∷
    codes "converted 0" ∷
    codes "converted 0" ∷
    codes "error past" ∷
    codes "closed" ∷
    []
    )
unfolding rows
refusals_of_refactoring = refl
