-- Whole runs: numbers that run out, lines without room, commits, and the generated script.
use Rattle.std.specs.Prelude.{◌≡◌, refl, ℕ, codes, List, ◌∷◌, [], map, Some, None, option_map}
use Rattle.oc_model.specs.Maps.{Text, keys}
use Rattle.oc_model.specs.Stores.{empty_store}
use Rattle.oc_machine.specs.Runs.{IsFullAt, all_built, text, summary, committed_stores, store_after, left_by}
use Rattle.oc_machine.specs.Generated.{generated}
use Rattle.oc_machine.specs.Rows.{rows, lines, run_over}

-- the last number
last_number : run_over (empty_store 2147483646) (codes "class K { v: i32 }" ∷ codes "make K { v: 1 }" ∷ codes "make K { v: 1 }" ∷ [])
    ≡ lines (codes "ready" ∷ codes "ok" ∷ codes "stored ~2147483646 1" ∷ codes "error numbers" ∷ codes "closed" ∷ [])
unfolding rows
last_number = refl

-- ---- lines without room

-- the lines of the run
abbrev script : List Text
script =
    codes "class A { }" ∷ codes "" ∷ codes "# a comment" ∷ codes "make A { }" ∷ codes "make Z { }" ∷ codes "commit" ∷ codes "make A { }" ∷ codes "query A" ∷ []

-- Blank lines and comments are counted too. Another refusal comes first, and a line that asks for no room has it. The closing has the number after the last line.
without_room : text all_built (empty_store 1) (lines script) (1 ∷ 4 ∷ 5 ∷ 6 ∷ 8 ∷ 9 ∷ [])
    ≡ lines (codes "ready" ∷ codes "ok" ∷ codes "error full" ∷ codes "error class" ∷ codes "error full" ∷ codes "stored ~1 1" ∷ codes "~1 A { }" ∷ codes "found 1" ∷ codes "error full" ∷ codes "abandoned" ∷ [])
unfolding rows
without_room = refl

-- just these lines find no room
full_lines : IsFullAt all_built (empty_store 1) (lines script) (4 ∷ 6 ∷ 9 ∷ [])
unfolding rows
full_lines = refl

-- the numbers of the objects in each committed store of that script
abbrev committed_numbers : List ℕ → List (List ℕ)
committed_numbers F = map (λ s. keys s.records) (committed_stores all_built (empty_store 1) (lines script) F)

all_commits : committed_numbers [] ≡ [] ∷ (1 ∷ []) ∷ (1 ∷ 2 ∷ []) ∷ []
unfolding rows
all_commits = refl

no_commit : committed_numbers (4 ∷ 6 ∷ 9 ∷ []) ≡ [] ∷ []
unfolding rows
no_commit = refl

closing_alone : committed_numbers (4 ∷ 6 ∷ []) ≡ [] ∷ (1 ∷ []) ∷ []
unfolding rows
closing_alone = refl

first_commit : option_map (λ s. s.next) (store_after all_built (empty_store 1) (lines script) [] 1) ≡ Some 2
unfolding rows
first_commit = refl

third_commit : option_map (λ s. s.next) (store_after all_built (empty_store 1) (lines script) [] 3) ≡ None
unfolding rows
third_commit = refl

-- a run whose closing finds no room leaves what was committed
abandoned : keys (left_by all_built (empty_store 1) (lines script) (9 ∷ [])).records ≡ 1 ∷ []
unfolding rows
abandoned = refl

-- ---- the generated script

three : summary all_built (empty_store 1) (generated 3) [] ≡ lines (codes "ready" ∷ codes "found 0" ∷ codes "found 1" ∷ codes "found 0" ∷ codes "committed 1" ∷ codes "closed" ∷ [])
unfolding rows generated
three = refl

sixty_four : summary all_built (empty_store 1) (generated 64) [] ≡ lines (codes "ready" ∷ codes "found 6" ∷ codes "found 1" ∷ codes "found 5" ∷ codes "committed 1" ∷ codes "closed" ∷ [])
unfolding rows generated
sixty_four = refl

-- with a commit on the way
a_hundred : summary all_built (empty_store 1) (generated 100) []
    ≡ lines (codes "ready" ∷ codes "committed 1" ∷ codes "found 10" ∷ codes "found 1" ∷ codes "found 5" ∷ codes "committed 2" ∷ codes "closed" ∷ [])
unfolding rows generated
a_hundred = refl
