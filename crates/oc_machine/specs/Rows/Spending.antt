-- What lines read, ask and spend, against numbers that were counted by hand.
use Rattle.std.specs.Prelude.{◌≡◌, refl, ℕ, true, false, ◌==◌, codes, List, ◌∷◌, [], filter, Some, None}
use Rattle.oc_model.specs.declared.value.Rec.{Rec}
use Rattle.oc_model.specs.Maps.{Map, Text}
use Rattle.oc_model.specs.Stores.{empty_store}
use Rattle.oc_model.specs.States.{State, start}
use Rattle.oc_machine.specs.Reading.{Reading, reads, reading}
use Rattle.oc_machine.specs.Runs.{all_built, state_after}
use Rattle.oc_machine.specs.Costs.{cost}
use Rattle.oc_machine.specs.Room.{Form, Since, with_change, nothing_since, asked, spent, is_over, no_room}
use Rattle.oc_machine.specs.Rows.{rows, lines}

-- the state that these lines lead to
abbrev behind : List Text → State
behind script = state_after all_built [] 1 (start (empty_store 1)) script

-- the cost of a line, nothing where it spells no command
abbrev cost_read : State → Reading → ℕ
cost_read m (reads c) = cost m c
cost_read m r = 0

-- what a line costs behind these lines
abbrev cost_behind : List Text → Text → ℕ
cost_behind script line = cost_read (behind script) (reading line)

-- ---- what lines read

-- one record of 32 bytes
abbrev pilot : List Text
pilot = codes "class Pilot { name: text, points: i32 }" ∷ codes "make Pilot { name: \"Michael\", points: 100 }" ∷ []

query_cost : cost_behind pilot (codes "query Pilot") ≡ 64
unfolding rows cost
query_cost = refl

index_cost : cost_behind pilot (codes "index Pilot.points") ≡ 64
unfolding rows cost
index_cost = refl

refused_cost : cost_behind pilot (codes "query Car") ≡ 0
unfolding rows cost
refused_cost = refl

peek_cost : cost_behind pilot (codes "peek ~1 1 session") ≡ 64
unfolding rows cost
peek_cost = refl

names_cost : cost_behind pilot (codes "names") ≡ 0
unfolding rows cost
names_cost = refl

-- The catalog of the empty store has 15 bytes, and its list of objects takes 8.
rollback_cost : cost_behind pilot (codes "rollback") ≡ 23
unfolding rows cost
rollback_cost = refl

-- three records of 15 bytes, with an index
abbrev indexed : List Text
indexed = codes "class T { a: i32 }" ∷ codes "index T.a" ∷ codes "make T { a: 1 }" ∷ codes "make T { a: 2 }" ∷ codes "make T { a: 2 }" ∷ []

-- The index leaves two of them, or one.
range_cost : cost_behind indexed (codes "query T where a > 1 order a asc") ≡ 60
unfolding rows cost
range_cost = refl

shortest_cost : cost_behind indexed (codes "query T where a > 1 and a = 1") ≡ 30
unfolding rows cost
shortest_cost = refl

-- Behind `not` and `or` an index is of no use.
scan_cost : cost_behind indexed (codes "query T where not a = 1") ≡ 90
unfolding rows cost
scan_cost = refl

either_cost : cost_behind indexed (codes "query T where a = 1 or a = 3") ≡ 90
unfolding rows cost
either_cost = refl

-- two records of 15 bytes that name one of 15
abbrev cars : List Text
cars = codes "class P { n: i32 }" ∷ codes "class C { p: ref }" ∷ codes "make P { n: 1 }" ∷ codes "make C { p: ~1 }" ∷ codes "make C { p: ~1 }" ∷ []

-- A path reads what it leads through, each record once.
path_cost : cost_behind cars (codes "query C where p.n = 1") ≡ 90
unfolding rows cost
path_cost = refl

key_cost : cost_behind cars (codes "query C order p.n asc") ≡ 90
unfolding rows cost
key_cost = refl

short_path_cost : cost_behind cars (codes "query C where p is ~1") ≡ 60
unfolding rows cost
short_path_cost = refl

-- ---- what lines ask

-- the form in bytes
abbrev plain : Form
plain = record { unit = 1; wide = false }

-- the form in blocks of this size
abbrev in_blocks : ℕ → Form
in_blocks b = record { unit = b; wide = true }

-- what a line asks, nothing where it spells no command
abbrev asked_read : Form → Since → State → Reading → ℕ
asked_read f s m (reads c) = asked f s m c
asked_read f s m r = 0

-- what a line asks behind these lines, of which the objects of these numbers are still to be committed
abbrev asked_behind : Form → List ℕ → List Text → Text → ℕ
asked_behind f ns script line = asked_read f (with_change nothing_since ns) (behind script) (reading line)

make_asks : asked_behind plain [] pilot (codes "make Pilot { name: \"Michael\", points: 100 }") ≡ 32
unfolding rows asked
make_asks = refl

make_asks_blocks : asked_behind (in_blocks 20) [] pilot (codes "make Pilot { name: \"Michael\", points: 100 }") ≡ 40
unfolding rows asked
make_asks_blocks = refl

-- The catalog has 51 bytes without lists, the list of objects takes 22, two pages 2,048, and the log 52.
commit_asks : asked_behind plain (1 ∷ []) pilot (codes "commit") ≡ 2173
unfolding rows asked
commit_asks = refl

-- In blocks of 16 bytes: 80, 2 blocks more, 2,048, and 80 for the log.
commit_asks_blocks : asked_behind (in_blocks 16) (1 ∷ []) pilot (codes "commit") ≡ 2240
unfolding rows asked
commit_asks_blocks = refl

query_asks : asked_behind plain [] pilot (codes "query Pilot") ≡ 0
unfolding rows asked
query_asks = refl

-- ---- what a run spends

-- the closing of a run over a new file
closing_spends : spent all_built plain 128 (empty_store 1) (lines pilot) [] 3 ≡ 2333
unfolding rows spent
closing_spends = refl

-- a line that finds no room asks, and what it asked isn't spent
make_spends : spent all_built plain 128 (empty_store 1) (lines pilot) (2 ∷ []) 2 ≡ 160
unfolding rows spent
make_spends = refl

-- The catalog has 51 bytes, the empty list of objects takes 8, one page 1,024, and the log 28.
refused_spends : spent all_built plain 128 (empty_store 1) (lines pilot) (2 ∷ []) 3 ≡ 1239
unfolding rows spent
refused_spends = refl

-- nothing changed, so nothing is asked
nothing_spent : spent all_built plain 128 (empty_store 1) (codes "commit") [] 2 ≡ 128
unfolding rows spent
nothing_spent = refl

-- ---- the limit

-- 4 blocks of 16 bytes hold 64 bytes.
just_within : is_over (in_blocks 16) 4 true 64 64 ≡ false
just_within = refl

past_the_end : is_over (in_blocks 16) 4 false 1 65 ≡ true
past_the_end = refl

-- A commit that asks for more than a cell can name is over any limit, and another line isn't.
unnamable : is_over (in_blocks 127) 2147483647 true 4294967296 4294967296 ≡ true
unnamable = refl

namable : is_over (in_blocks 127) 2147483647 false 4294967296 4294967296 ≡ false
namable = refl

-- A record of 32 bytes takes two blocks of 20: the part of two is better than that of three. Another one finds no room behind 7 of 8 blocks.
abbrev written : List Text → ℕ → Map Rec
written script n = filter (λ e. e.0 == n) (behind script).session.records

takes_the_best : no_room (in_blocks 20) (record { address = 7; blocks = 3 } ∷ record { address = 20; blocks = 2 } ∷ []) 30 30 (written pilot 1) ≡ None
unfolding rows no_room
takes_the_best = refl

finds_none : no_room (in_blocks 20) (record { address = 7; blocks = 1 } ∷ []) 29 30 (written pilot 1) ≡ Some (record { need = 2; length = 29 })
unfolding rows no_room
finds_none = refl
