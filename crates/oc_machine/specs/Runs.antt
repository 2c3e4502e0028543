-- What a whole run says, and what it commits.
use Rattle.std.specs.Prelude.{◌≡◌, ℕ, ◌+◌, Bool, true, false, not, ◌&&◌, ◌||◌, ◌==◌, List, [], ◌∷◌, ◌++◌, length, flat_map, codes, Option, Some, None, is_none, option_to_list, slice_get, if◌then◌else◌}
use Rattle.std.specs.List.{list_any, list_all}
use Rattle.oc_model.specs.declared.command.Command.{Command}
use Rattle.oc_model.specs.declared.command.Command.TheVariants.{Class, Make, Query, Store, Convert, Commit}
use Rattle.oc_model.specs.declared.command.Single.TheVariants as single
use Rattle.oc_model.specs.declared.command.ValueText.{ValueText}
use Rattle.oc_model.specs.declared.command.ValueText.TheVariants as valued
use Rattle.oc_model.specs.declared.value.Base.TheVariants as base
use Rattle.oc_model.specs.declared.value.Kind.{Kind}
use Rattle.oc_model.specs.declared.value.Kind.TheVariants as kind
use Rattle.oc_model.specs.declared.answer.Word.TheVariants as word
use Rattle.oc_model.specs.declared.answer.Answer.{Answer}
use Rattle.oc_model.specs.declared.answer.Answer.TheVariants as answer
use Rattle.oc_model.specs.Maps.{Text, is_in}
use Rattle.oc_model.specs.Schemas.{class_named}
use Rattle.oc_model.specs.Stores.{Store as Objects}
use Rattle.oc_model.specs.States.{State, start}
use Rattle.oc_machine.specs.Reading.{Reading, nothing, refused, reads, reading}
use Rattle.oc_machine.specs.Printing.{answer_text, counted}
use Rattle.oc_machine.specs.Outcomes.{Outcome}
use Rattle.oc_machine.specs.CommitLines.{committed}
use Rattle.oc_machine.specs.Machine.{step}

-- ---- the lines of a script

-- a character before the first line, which is begun where there is none
abbrev pub onto_first : ℕ → List Text → List Text
onto_first c [] = (c ∷ []) ∷ []
onto_first c (l ∷ ls) = (c ∷ l) ∷ ls

-- A line ends with LF or with the script. What follows the last LF is a line where it isn't empty.
abbrev pub lines_of : Text → List Text
lines_of [] = []
lines_of (c ∷ t) = if c == 10 then [] ∷ lines_of t else onto_first c (lines_of t)

-- ---- which lines are built

-- a test on the state and what a line reads as
abbrev pub Built : Type 0
Built = State → Reading → Bool

-- every line
abbrev pub all_built : Built
all_built m r = true

-- a number or a text
abbrev pub is_built_kind : Kind → Bool
is_built_kind (kind.One base.I32) = true
is_built_kind (kind.One base.Text) = true
is_built_kind k = false

-- null, a number or a text
abbrev pub is_built_value : ValueText → Bool
is_built_value (valued.One single.Null) = true
is_built_value (valued.One (single.Int n)) = true
is_built_value (valued.One (single.Text t)) = true
is_built_value v = false

-- The commands that the program has by now: a new class without a parent, with fields of the kinds i32 and text, an object of such values, and a query for all objects of a class.
abbrev pub is_built_command : State → Command → Bool
is_built_command m (Class name None ds) = is_none (class_named m.session.schema name) && list_all (λ d. is_built_kind d.kind) ds
is_built_command m (Make class gs) = list_all (λ g. is_built_value g.value) gs
is_built_command m (Query class None []) = true
is_built_command m c = false

-- The lines that the program has by now.
unfoldable pub is_built : Built
is_built m (reads c) = is_built_command m c
is_built m r = true

-- ---- a line

-- whether want of room may be what a command answers
abbrev pub asks_room : Command → Bool
asks_room (Make class givens) = true
asks_room (Store name depth) = true
asks_room (Convert class field from) = true
asks_room Commit = true
asks_room c = false

-- the answer is a refusal
abbrev pub is_refusal : Answer → Bool
is_refusal (answer.Refused w) = true
is_refusal _ = false

-- One command, where there is room or not. Without room the state stays, and another refusal comes first.
abbrev pub step_or_full : Bool → State → Command → Outcome
step_or_full full m c =
    let r = step m c in
    if full && asks_room c && not (is_refusal r.1) then (m, answer.Refused (word.Full 0 0 0)) else r

-- the new state, and the answer of a line that has one
abbrev pub read_step : Bool → State → Reading → State × Option Answer
read_step full m nothing = (m, None)
read_step full m (refused w) = (m, Some (answer.Refused w))
read_step full m (reads c) = let r = step_or_full full m c in (r.0, Some r.1)

-- a line that isn't built is refused
abbrev pub built_step : Built → Bool → State → Reading → State × Option Answer
built_step built full m r = if built m r then read_step full m r else (m, Some (answer.Refused word.Syntax))

-- the state behind a line, and its answer
unfoldable pub line_step : Built → Bool → State → Text → State × Option Answer
unfolding step
line_step built full m line = built_step built full m (reading line)

-- ---- a script

-- What the lines from number i on answer. F has the numbers of the lines at which there is no room.
abbrev pub answers_from : Built → List ℕ → ℕ → State → List Text → List Answer
answers_from built F i m [] = []
answers_from built F i m (l ∷ ls) =
    let r = line_step built (is_in F i) m l in option_to_list r.1 ++ answers_from built F (i + 1) r.0 ls

-- the state behind the lines, where those in the list find no room
abbrev pub state_after : Built → List ℕ → ℕ → State → List Text → State
state_after built F i m [] = m
state_after built F i m (l ∷ ls) = state_after built F (i + 1) (line_step built (is_in F i) m l).0 ls

-- The closing has the number after the last line.
abbrev pub closes_full : List ℕ → Text → Bool
closes_full F script = is_in F (length (lines_of script) + 1)

-- the last text of a run, which tells whether the closing commit found room
abbrev pub closing : Bool → Text
closing full = if full then codes "error full\nabandoned\n" else codes "closed\n"

-- the answers of a run over a store, without the closing
abbrev pub answers : Built → Objects → Text → List ℕ → List Answer
answers built s script F = answers_from built F 1 (start s) (lines_of script)

-- all that a run over a store says
abbrev pub text : Built → Objects → Text → List ℕ → Text
text built s script F = codes "ready\n" ++ flat_map answer_text (answers built s script F) ++ closing (closes_full F script)

-- some line of that text is an error
abbrev pub has_error : Built → Objects → Text → List ℕ → Bool
has_error built s script F = list_any is_refusal (answers built s script F) || closes_full F script

-- ---- the lines that find no room

-- the answer is that there is no room
abbrev pub is_full : Option Answer → Bool
is_full (Some (answer.Refused (word.Full need len limit))) = true
is_full _ = false

-- the numbers of the lines from number i on that are answered so, and the closing
abbrev pub full_from : Built → List ℕ → ℕ → State → List Text → List ℕ
full_from built F i m [] = if is_in F i then i ∷ [] else []
full_from built F i m (l ∷ ls) =
    let r = line_step built (is_in F i) m l in
    let more = full_from built F (i + 1) r.0 ls in
    if is_full r.1 then i ∷ more else more

-- F names just the lines that find no room: each asks for room and has no other refusal.
abbrev pub IsFullAt : Built → Objects → Text → List ℕ → Type 0
IsFullAt built s script F = full_from built F 1 (start s) (lines_of script) ≡ F

-- ---- what a run commits

-- the closing commits, where it has room
abbrev pub closed : Bool → State → State
closed full m = if full then m else committed m

-- the committed store, if a step from one state to another made a commit
abbrev pub commit_between : State → State → List Objects
commit_between m n = if m.commits == n.commits then [] else n.committed ∷ []

-- the stores that the lines from number i on commit, and the closing
abbrev pub commits_from : Built → List ℕ → ℕ → State → List Text → List Objects
commits_from built F i m [] = commit_between m (closed (is_in F i) m)
commits_from built F i m (l ∷ ls) =
    let r = line_step built (is_in F i) m l in commit_between m r.0 ++ commits_from built F (i + 1) r.0 ls

-- The stores that a run commits, one after another: first the one that it begins with. The closing's is the last.
abbrev pub committed_stores : Built → Objects → Text → List ℕ → List Objects
committed_stores built s script F = s ∷ commits_from built F 1 (start s) (lines_of script)

-- the store after this many commits of a run, if it makes so many
abbrev pub store_after : Built → Objects → Text → List ℕ → ℕ → Option Objects
store_after built s script F j = slice_get (committed_stores built s script F) j

-- the store that a run leaves
abbrev pub left_by : Built → Objects → Text → List ℕ → Objects
left_by built s script F = (closed (closes_full F script) (state_after built F 1 (start s) (lines_of script))).committed

-- ---- the summary of a run

-- of an answer the lines that begin with `found`, `committed` or `error`
abbrev pub summary_text : Answer → Text
summary_text (answer.Found os) = counted (codes "found") (length os)
summary_text (answer.Committed k) = answer_text (answer.Committed k)
summary_text (answer.Refused w) = answer_text (answer.Refused w)
summary_text a = []

-- what a run says where the script is a generated one
abbrev pub summary : Built → Objects → Text → List ℕ → Text
summary built s script F = codes "ready\n" ++ flat_map summary_text (answers built s script F) ++ closing (closes_full F script)
