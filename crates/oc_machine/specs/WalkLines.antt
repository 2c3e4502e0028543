-- The lines that walk: store, make, delete, activate, deactivate, refresh, show and peek.
use Rattle.std.specs.Prelude.{ℕ, ◌+◌, Bool, true, false, not, ◌&&◌, nat_le, List, [], filter, filter_map, fold, length, Option, Some, None, Ok, option_map, unwrap_or, if◌then◌else◌}
use Rattle.oc_model.specs.declared.value.Entry.{Entry}
use Rattle.oc_model.specs.declared.value.Rec.{Rec}
use Rattle.oc_model.specs.declared.reach.Node.TheVariants as node
use Rattle.oc_model.specs.declared.command.Given.{Given}
use Rattle.oc_model.specs.declared.command.SideText.{SideText}
use Rattle.oc_model.specs.declared.command.SideText.TheVariants as side
use Rattle.oc_model.specs.declared.answer.Mark.{Mark}
use Rattle.oc_model.specs.declared.answer.Shown.{Shown}
use Rattle.oc_model.specs.declared.answer.Shown.TheVariants as shown
use Rattle.oc_model.specs.declared.answer.ObjectLine.{ObjectLine}
use Rattle.oc_model.specs.declared.answer.Word.TheVariants as word
use Rattle.oc_model.specs.declared.answer.Answer.TheVariants as answer
use Rattle.oc_model.specs.Maps.{Map, Text, at, with_at, is_in}
use Rattle.oc_model.specs.Schemas.{class_named, fields_of}
use Rattle.oc_model.specs.Stores.{Store, written}
use Rattle.oc_model.specs.States.{State, Live, settings_of}
use Rattle.oc_model.specs.Nodes.{is_stored, is_unsaved}
use Rattle.oc_model.specs.Walks.{best}
use Rattle.oc_model.specs.StateWalks.{activate_walk, deactivate_walk, refresh_walk, peek_walk, store_walk, delete_walk, show_walk}
use Rattle.oc_machine.specs.Outcomes.{Outcome, Checked, ◌>>=◌, ◌>>◌, unless, or_refuse}
use Rattle.oc_machine.specs.Memory.{live_named, entries_by, to_number, all_filled, emptied, detached, with_all, handles_in, numbers_in}
use Rattle.oc_machine.specs.Values.{checked}
use Rattle.oc_machine.specs.SchemaLines.{with_records, are_short}
use Rattle.oc_machine.specs.ObjectLines.{made, mark_of}
use Rattle.oc_machine.specs.Showing.{class_name, shown_fields, stored_line}

-- ---- depths

-- no depth is over 65,535
abbrev pub depth_checked : ℕ → Checked (Unit {0})
depth_checked depth = unless (nat_le depth 65535) word.Size

-- refused where a depth is stated and is too great
abbrev pub stated_depth_checked : Option ℕ → Checked (Unit {0})
stated_depth_checked depth = depth_checked (unwrap_or depth 0)

-- every live object
abbrev pub any : Live → Bool
any o = true

-- ---- store

-- What a store makes of the state before a record is written, and the records that it writes.
pub record StorePlan : Type 0 where
  pub numbered : State
  pub changes : Map Rec

-- the handles of unsaved objects among these
abbrev pub unsaved_among : State → List ℕ → List ℕ
unsaved_among m hs = filter (λ h. unwrap_or (option_map is_unsaved (at m.live h)) false) hs

-- with the next number given to a live object
abbrev pub with_number : State → ℕ → State
with_number m h = elim (at m.live h) [
  | None ↦ m
  | Some o ↦
      record m {
        session = record m.session { next = m.session.next + 1 };
        live = with_at m.live h (record { class = o.class; number = Some m.session.next; active = o.active; entries = o.entries });
      }
]

-- the entries of the session's record of a number
abbrev pub old_entries : State → ℕ → List Entry
old_entries m n = unwrap_or (option_map (λ r. r.entries) (at m.session.records n)) []

-- The record of a live object: each current field from its values, with numbers in place of handles, and the other entries as they were.
abbrev pub record_of : State → Live → ℕ → Rec
record_of m o n = record { class = o.class; entries = written m.session.schema o.class (entries_by (to_number m) o.entries) (old_entries m n) }

-- an active object with a number, with its record
abbrev pub change_of : State → Option Live → Option (ℕ × Rec)
change_of m None = None
change_of m (Some o) = if o.active then option_map (λ n. (n, record_of m o n)) o.number else None

-- the records by number
abbrev pub by_number : List (ℕ × Rec) → Map Rec
by_number es = fold (λ (all : Map Rec) e. with_at all e.0 e.1) [] es

-- The reached unsaved objects get the next numbers, in ascending order of handle. They and the reached active ones are written.
unfoldable pub store_plan : State → ℕ → ℕ → StorePlan
unfolding best store_walk written
store_plan m h depth =
    let hs = handles_in (best (store_walk m) (node.Live h) depth) in
    let w = fold with_number m (unsaved_among m hs) in
    record { numbered = w; changes = by_number (filter_map (λ h. change_of w (at w.live h)) hs) }

-- A record of more than 262,144 bytes comes before a number over 2,147,483,646.
unfoldable pub stored : State → ℕ → ℕ → Checked Outcome
unfolding store_plan
stored m h depth =
    let p = store_plan m h depth in
    unless (are_short p.changes) word.Size >>
    unless (nat_le p.numbered.session.next 2147483647) word.Numbers >>
    Ok (with_records p.numbered p.changes, answer.Stored (to_number p.numbered h) (length p.changes))

-- the depth of a store that states none: that of the class where it is set, else that of the run
abbrev pub store_depth : State → ℕ → ℕ
store_depth m c = unwrap_or (settings_of m.settings c).update m.settings.update

-- the objects that `store` reaches are written
unfoldable pub store_step : State → Text → Option ℕ → Checked Outcome
unfolding stored
store_step m name depth =
    stated_depth_checked depth >>
    live_named m name >>= λ o.
    stored m o.0 (unwrap_or depth (store_depth m (o.1).class))

-- ---- make

-- a new object of the class, stored as deep as `store` goes from it
unfoldable pub make_step : State → Text → List Given → Checked Outcome
unfolding checked made stored
make_step m class gs =
    or_refuse (class_named m.session.schema class) word.Class >>= λ c.
    checked m c [] gs >>= λ fs.
    (let r = made m c fs in stored r.0 r.1 (store_depth r.0 c))

-- ---- delete

-- without the records of these numbers
abbrev pub without_records : State → List ℕ → State
without_records m ns = record m { session = record m.session { records = filter (λ e. not (is_in ns e.0)) m.session.records } }

-- the object has one of these numbers
abbrev pub is_among : List ℕ → Live → Bool
is_among ns o = unwrap_or (option_map (is_in ns) o.number) false

-- the numbers that a delete takes out of the session
unfoldable pub deleted_numbers : State → ℕ → List ℕ
unfolding best delete_walk
deleted_numbers m h = numbers_in any m (best (delete_walk m) (node.Live h) 1)

-- the objects that `delete` reaches have no record any more, and those live are unsaved
unfoldable pub delete_step : State → Text → Checked Outcome
unfolding deleted_numbers
delete_step m name =
    live_named m name >>= λ o.
    unless (not (is_unsaved o.1)) word.Live >>
    (let ns = deleted_numbers m o.0 in Ok (with_all (λ h p. is_among ns p) detached (without_records m ns), answer.Deleted (length ns)))

-- ---- activate, deactivate and refresh

-- the object has no values in memory
abbrev pub is_inactive : Live → Bool
is_inactive o = not o.active

-- the numbers that an activation makes active
unfoldable pub activated_numbers : State → ℕ → ℕ → List ℕ
unfolding best activate_walk
activated_numbers m h depth = numbers_in is_inactive m (best (activate_walk m) (node.Live h) depth)

-- the objects that `activate` reaches have the values of their records
unfoldable pub activate_step : State → Text → Option ℕ → Checked Outcome
unfolding activated_numbers all_filled
activate_step m name depth =
    stated_depth_checked depth >>
    live_named m name >>= λ o.
    (let ns = activated_numbers m o.0 (unwrap_or depth m.settings.activation) in Ok (all_filled m ns, answer.Activated (length ns)))

-- an active object with a number
abbrev pub is_active_stored : Live → Bool
is_active_stored o = o.active && not (is_unsaved o)

-- a live object is there, active, with a number
abbrev pub is_active_stored_at : Option Live → Bool
is_active_stored_at o = unwrap_or (option_map is_active_stored o) false

-- the handles that a deactivation makes inactive
unfoldable pub deactivated_handles : State → ℕ → ℕ → List ℕ
unfolding best deactivate_walk
deactivated_handles m h depth =
    filter (λ g. is_active_stored_at (at m.live g)) (handles_in (best (deactivate_walk m) (node.Live h) depth))

-- the objects that `deactivate` reaches are inactive
unfoldable pub deactivate_step : State → Text → ℕ → Checked Outcome
unfolding deactivated_handles
deactivate_step m name depth =
    depth_checked depth >>
    live_named m name >>= λ o.
    (let hs = deactivated_handles m o.0 depth in Ok (with_all (λ h p. is_in hs h) emptied m, answer.Deactivated (length hs)))

-- the numbers that a refresh reads anew
unfoldable pub refreshed_numbers : State → ℕ → ℕ → List ℕ
unfolding best refresh_walk
refreshed_numbers m h depth = numbers_in any m (best (refresh_walk m) (node.Live h) depth)

-- the objects that `refresh` reaches have the values of their records again
unfoldable pub refresh_step : State → Text → ℕ → Checked Outcome
unfolding refreshed_numbers all_filled
refresh_step m name depth =
    depth_checked depth >>
    live_named m name >>= λ o.
    unless (not (is_unsaved o.1)) word.Live >>
    (let ns = refreshed_numbers m o.0 depth in Ok (all_filled m ns, answer.Refreshed (length ns)))

-- ---- show

-- how a reference in memory is shown
abbrev pub live_mark : State → ℕ → Option Mark
live_mark m h = option_map (λ o. mark_of h o.number) (at m.live h)

-- the values in memory, or that they aren't there
abbrev pub shown_live : State → Live → Shown
shown_live m o = if o.active then shown_fields (live_mark m) (fields_of m.session.schema o.class) o.entries else shown.Stub

-- a live object as it is shown
abbrev pub live_line : State → ℕ → Option ObjectLine
live_line m h =
    option_map (λ o. record { mark = mark_of h o.number; class = class_name m.session.schema o.class; fields = shown_live m o }) (at m.live h)

-- the live objects that `show` reaches
unfoldable pub show_step : State → Text → Checked Outcome
unfolding best show_walk fields_of
show_step m name =
    live_named m name >>= λ o.
    Ok (m, answer.Shown (filter_map (live_line m) (handles_in (best (show_walk m) (node.Live o.0) 1))))

-- ---- peek

-- the store of a side
abbrev pub side_of : State → SideText → Store
side_of m side.Committed = m.committed
side_of m side.Session = m.session

-- the numbers that a peek shows
unfoldable pub peeked_numbers : Store → ℕ → ℕ → List ℕ
unfolding best peek_walk
peeked_numbers s n depth = filter_map (λ e. elim e.0 [ node.Live h ↦ None | node.Number k ↦ Some k ]) (best (peek_walk s) (node.Number n) depth)

-- the records that `peek` reaches on one side
unfoldable pub peeked : State → Store → ℕ → ℕ → Checked Outcome
unfolding peeked_numbers stored_line
peeked m s n depth =
    unless (is_stored s n) word.Live >>
    Ok (m, answer.Peeked (filter_map (stored_line s) (peeked_numbers s n depth)))

-- the records reached from a number
unfoldable pub peek_number_step : State → ℕ → ℕ → SideText → Checked Outcome
unfolding peeked
peek_number_step m n depth side = depth_checked depth >> peeked m (side_of m side) n depth

-- the records reached from a bound name
unfoldable pub peek_name_step : State → Text → ℕ → SideText → Checked Outcome
unfolding peeked
peek_name_step m name depth side =
    depth_checked depth >>
    live_named m name >>= λ o.
    or_refuse (o.1).number word.Live >>= λ n.
    peeked m (side_of m side) n depth
