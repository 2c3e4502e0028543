-- Room: the bytes that a line may ask of the file, and what a run has spent up to a line.
use Rattle.std.specs.Prelude.{ℕ, zero, suc, ◌+◌, ◌-◌, ◌*◌, ◌/◌, Bool, true, false, not, ◌&&◌, ◌||◌, ◌==◌, nat_lt, List, [], ◌∷◌, ◌++◌, map, length, sum_by, Option, Some, None, Ok, unwrap_or, if◌then◌else◌}
use Rattle.oc_model.specs.declared.value.Rec.{Rec}
use Rattle.oc_model.specs.declared.answer.Word.TheVariants as word
use Rattle.oc_model.specs.declared.answer.Answer.{Answer}
use Rattle.oc_model.specs.declared.command.Given.{Given}
use Rattle.oc_model.specs.declared.command.Command.{Command}
use Rattle.oc_model.specs.declared.command.Command.TheVariants.{Class, RenameClass, RenameField, Convert, Index, Unindex, Make, Store as StoreLine, Delete, Commit, Rollback}
use Rattle.oc_model.specs.Maps.{Map, Text, keys, is_in}
use Rattle.oc_model.specs.Schemas.{class_named}
use Rattle.oc_model.specs.SchemaSteps.{conversion_of}
use Rattle.oc_model.specs.Stores.{Store, record_len}
use Rattle.oc_model.specs.Lengths.{catalog_len, entry_count}
use Rattle.oc_model.specs.Space.{Part, Shortage, shortage}
use Rattle.oc_model.specs.States.{State, start}
use Rattle.oc_machine.specs.Reading.{Reading, reads, reading}
use Rattle.oc_machine.specs.Outcomes.{Checked, ◌>>=◌, or_refuse}
use Rattle.oc_machine.specs.Memory.{live_named}
use Rattle.oc_machine.specs.Values.{checked}
use Rattle.oc_machine.specs.ObjectLines.{made}
use Rattle.oc_machine.specs.SchemaLines.{conversions}
use Rattle.oc_machine.specs.WalkLines.{store_plan, store_depth, deleted_numbers}
use Rattle.oc_machine.specs.Runs.{Built, lines_of, line_step, is_refusal}
use Rattle.oc_machine.specs.Costs.{or_nothing, each_once}

-- ---- blocks

-- How a file counts its room.
pub record Form : Type 0 where
  -- how many bytes a block has
  pub unit : ℕ
  -- whether the targets of its log are eight bytes wide, not four
  pub wide : Bool

-- how many blocks so many bytes need
abbrev pub blocks : Form → ℕ → ℕ
blocks f x = (x + f.unit - 1) / f.unit

-- these bytes, up to the end of their last block
abbrev pub up : Form → ℕ → ℕ
up f x = blocks f x * f.unit

-- the bytes of a cell write in the log
abbrev pub write_len : Form → ℕ
write_len f = if f.wide then 16 else 12

-- what a segment may lose at the end of its last block
abbrev pub rest_len : Form → ℕ
rest_len f = if f.unit == 1 then 0 else f.unit

-- ---- what came since the last commit or rollback

pub record Since : Type 0 where
  -- a command was accepted that may change what a commit writes
  pub changed : Bool
  -- the objects that were written or deleted
  pub numbers : List ℕ

-- nothing changed yet
abbrev pub nothing_since : Since
nothing_since = record { changed = false; numbers = [] }

-- with a change that concerned these objects
abbrev pub with_change : Since → List ℕ → Since
with_change s ns = record { changed = true; numbers = each_once (ns ++ s.numbers) }

-- ---- the records of a line

-- the records that the line `make` writes, or its refusal
abbrev pub made_changes : State → Text → List Given → Checked (Map Rec)
made_changes m class gs =
    or_refuse (class_named m.session.schema class) word.Class >>= λ c.
    checked m c [] gs >>= λ fs.
    (let r = made m c fs in Ok (store_plan r.0 r.1 (store_depth r.0 c)).changes)

-- the records that a line writes
unfoldable pub written_by : State → Command → Checked (Map Rec)
unfolding checked made store_plan conversion_of conversions
written_by m (Make class gs) = made_changes m class gs
written_by m (StoreLine name depth) = live_named m name >>= λ o. Ok (store_plan m o.0 (unwrap_or depth (store_depth m (o.1).class))).changes
written_by m (Convert class field from) = conversion_of m.session.schema class field from >>= λ v. Ok (conversions m.session v)
written_by m c = Ok []

-- the numbers that a line deletes
unfoldable pub deleted_by : State → Command → Checked (List ℕ)
unfolding deleted_numbers
deleted_by m (Delete name) = live_named m name >>= λ o. Ok (deleted_numbers m o.0)
deleted_by m c = Ok []

-- an accepted line of this form may change what a commit writes
abbrev pub may_change : Command → Bool
may_change (Class name parent fields) = true
may_change (RenameClass class to) = true
may_change (RenameField class field to) = true
may_change (Convert class field from) = true
may_change (Index class field) = true
may_change (Unindex class field) = true
may_change (Make class givens) = true
may_change (StoreLine name depth) = true
may_change (Delete name) = true
may_change c = false

-- what came since then, with an accepted line more
abbrev pub since_line : Since → State → Command → Since
since_line s m Commit = nothing_since
since_line s m Rollback = nothing_since
since_line s m c = if may_change c then with_change s (keys (or_nothing (written_by m c)) ++ or_nothing (deleted_by m c)) else s

-- ---- what a line asks

-- the bytes of the records
abbrev pub records_asked : Form → Map Rec → ℕ
records_asked f changes = sum_by (λ e. up f (record_len e.1)) changes

-- the page of an object's pointer
abbrev pub page_of : ℕ → ℕ
page_of n = (n - 1) / 126

-- A commit asks for the catalog and the segments, for pages and for the log, and for nothing where nothing changed.
unfoldable pub commit_asked : Form → Since → State → ℕ
unfolding catalog_len entry_count
commit_asked f s m =
    let e = entry_count m.committed + entry_count m.session in
    let pages = length (each_once (map page_of s.numbers)) in
    if s.changed
    then up f (catalog_len m.session) + rest_len f * (e + 1) + up f 1024 * (pages + 1 + e / 126) + up f (4 + write_len f * (length s.numbers + e + 2))
    else 0

-- the bytes that a line asks of the file
unfoldable pub asked : Form → Since → State → Command → ℕ
unfolding commit_asked written_by
asked f s m Commit = commit_asked f s m
asked f s m c = records_asked f (or_nothing (written_by m c))

-- ---- what a run has spent

-- what a line asks, and whether it was accepted
pub record Expense : Type 0 where
  pub asks : ℕ
  pub accepted : Bool

-- the line was answered, and not refused
abbrev pub is_accepted : Option Answer → Bool
is_accepted None = false
is_accepted (Some a) = not (is_refusal a)

-- what the command of a line asks, nothing where there is none
abbrev pub read_asked : Form → Since → State → Reading → ℕ
read_asked f s m (reads c) = asked f s m c
read_asked f s m r = 0

-- what has changed behind a line, if it was accepted
abbrev pub since_reading : Since → State → Reading → Bool → Since
since_reading s m (reads c) true = since_line s m c
since_reading s m r accepted = s

-- what each of the lines from number i on asks, and the closing
unfoldable pub expenses_from : Built → Form → List ℕ → ℕ → Since → State → List Text → List Expense
unfolding line_step reading asked written_by deleted_by commit_asked
expenses_from built f F i s m [] = record { asks = commit_asked f s m; accepted = not (is_in F i) } ∷ []
expenses_from built f F i s m (l ∷ ls) =
    let r = line_step built (is_in F i) m l in
    let accepted = is_accepted r.1 in
    record { asks = read_asked f s m (reading l); accepted = accepted } ∷ expenses_from built f F (i + 1) (since_reading s m (reading l) accepted) r.0 ls

-- what the accepted ones before a line ask, and the line itself
abbrev pub spent_in : ℕ → List Expense → ℕ
spent_in i [] = 0
spent_in zero (e ∷ es) = 0
spent_in (suc zero) (e ∷ es) = e.asks
spent_in (suc (suc i)) (e ∷ es) = (if e.accepted then e.asks else 0) + spent_in (suc i) es

-- The bytes that a run has spent at most when line i ends, where the file had so many when `ready` was said. Room that is used again isn't reckoned with.
unfoldable pub spent : Built → Form → ℕ → Store → Text → List ℕ → ℕ → ℕ
unfolding expenses_from
spent built f len s script F i = up f len + spent_in i (expenses_from built f F 1 nothing_since (start s) (lines_of script))

-- ---- the limit

-- more bytes than a file of so many blocks has
abbrev pub is_past : Form → ℕ → ℕ → Bool
is_past f limit bytes = nat_lt (limit * f.unit) bytes

-- more bytes than a cell can name
abbrev pub is_unnamable : ℕ → Bool
is_unnamable asks = nat_lt 4294967295 asks

-- A line that asks for so much is over the limit with these bytes in all: they are past it, or a commit asks for more than a cell can name.
abbrev pub is_over : Form → ℕ → Bool → ℕ → ℕ → Bool
is_over f limit commits asks bytes = is_past f limit bytes || (commits && is_unnamable asks)

-- The records of a line, by number, that find no room in these parts and behind this length, all in blocks.
unfoldable pub no_room : Form → List Part → ℕ → ℕ → Map Rec → Option Shortage
unfolding shortage
no_room f free len limit changes = shortage free len limit (map (λ e. blocks f (record_len e.1)) changes)
