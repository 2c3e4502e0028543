-- The objects in memory: their names, and what makes, fills, empties and detaches them.
use Rattle.std.specs.Prelude.{ℕ, ◌+◌, Bool, true, false, not, ◌==◌, List, [], ◌∷◌, ◌++◌, map, filter, filter_map, fold, Option, Some, None, is_none, unwrap_or, if◌then◌else◌, Ok}
use Rattle.std.specs.Ordering.{nat_cmp}
use Rattle.oc_model.specs.declared.value.Atom.{Atom}
use Rattle.oc_model.specs.declared.value.Atom.TheVariants as atom
use Rattle.oc_model.specs.declared.value.Value.{Value}
use Rattle.oc_model.specs.declared.value.Value.TheVariants as value
use Rattle.oc_model.specs.declared.value.Entry.{Entry}
use Rattle.oc_model.specs.declared.value.Rec.{Rec}
use Rattle.oc_model.specs.declared.reach.Node.{Node}
use Rattle.oc_model.specs.declared.reach.Node.TheVariants as node
use Rattle.oc_model.specs.declared.answer.Word.TheVariants as word
use Rattle.oc_model.specs.Maps.{Text, at, with_at, same}
use Rattle.oc_model.specs.Lists.{sorted}
use Rattle.oc_model.specs.Refusals.{Checked, ◌>>=◌, or_refuse}
use Rattle.oc_model.specs.Stores.{written}
use Rattle.oc_model.specs.States.{State, Live}
use Rattle.oc_model.specs.Nodes.{handle_of, named_in}
use Rattle.oc_model.specs.Walks.{Table}

-- ---- names

-- the handle that a name is bound to
abbrev pub bound : List (Text × ℕ) → Text → Option ℕ
bound [] name = None
bound (e ∷ es) name = if same e.0 name then Some e.1 else bound es name

-- With the name bound to this handle: in its place where it was bound before, else behind the others.
abbrev pub with_bound : List (Text × ℕ) → Text → ℕ → List (Text × ℕ)
with_bound [] name h = (name, h) ∷ []
with_bound (e ∷ es) name h = if same e.0 name then (name, h) ∷ es else e ∷ with_bound es name h

-- without the name
abbrev pub without_name : List (Text × ℕ) → Text → List (Text × ℕ)
without_name es name = filter (λ e. not (same e.0 name)) es

-- the live object of a name, with its handle
abbrev pub live_named : State → Text → Checked (ℕ × Live)
live_named m name =
    or_refuse (bound m.names name) word.Name >>= λ h.
    or_refuse (at m.live h) word.Name >>= λ o.
    Ok (h, o)

-- ---- new live objects

-- with this object under the handle
abbrev pub with_live : State → ℕ → Live → State
with_live m h o = record m { live = with_at m.live h o }

-- with one live object more, under the next handle
abbrev pub with_new : State → Live → State
with_new m o = record m { live = with_at m.live m.next_handle o; next_handle = m.next_handle + 1 }

-- an inactive object for a record
abbrev pub stub_of : ℕ → Rec → Live
stub_of n r = record { class = r.class; number = Some n; active = false; entries = [] }

-- with a new inactive object of the number, if a record is there
abbrev pub with_stub : State → ℕ → Option Rec → State
with_stub m n None = m
with_stub m n (Some r) = with_new m (stub_of n r)

-- With a live object for the number: an inactive one where the session has the number and there was none.
abbrev pub woken : State → ℕ → State
woken m n = elim (is_none (handle_of m n)) [ true ↦ with_stub m n (at m.session.records n) | false ↦ m ]

-- The same for several numbers: the new objects get their handles in ascending order of number.
abbrev pub all_woken : State → List ℕ → State
all_woken m ns = fold woken m (sorted nat_cmp ns)

-- ---- references as numbers and as handles

-- a single value with its reference changed, null where it is null
abbrev pub atom_by : (ℕ → ℕ) → Atom → Atom
atom_by r (atom.Ref n) = atom.Ref (if n == 0 then 0 else r n)
atom_by r a = a

-- the value with each reference replaced; null stays
abbrev pub value_by : (ℕ → ℕ) → Value → Value
value_by r (value.One a) = value.One (atom_by r a)
value_by r (value.Many None) = value.Many None
value_by r (value.Many (Some items)) = value.Many (Some (map (atom_by r) items))

-- the entries with each reference changed
abbrev pub entries_by : (ℕ → ℕ) → List Entry → List Entry
entries_by r es = map (λ e. record { id = e.id; value = value_by r e.value; kind = e.kind }) es

-- the handle of the number's live object, 0 where there is none
abbrev pub to_handle : State → ℕ → ℕ
to_handle m n = unwrap_or (handle_of m n) 0

-- the number of a live object, if it is there and has one
abbrev pub number_at : Option Live → Option ℕ
number_at None = None
number_at (Some o) = o.number

-- the number of the handle's object, 0 where it is unsaved
abbrev pub to_number : State → ℕ → ℕ
to_number m h = unwrap_or (number_at (at m.live h)) 0

-- ---- active and inactive

-- The object of a record as it is in memory: a value for each current field, with handles in place of numbers.
unfoldable pub filled_of : State → ℕ → Rec → Live
unfolding written
filled_of m n r =
    record {
      class = r.class;
      number = Some n;
      active = true;
      entries = written m.session.schema r.class (entries_by (to_handle m) r.entries) [];
    }

-- with the live object of the handle active, with the record's values; unchanged where either is missing
abbrev pub filled_from : State → ℕ → Option ℕ → Option Rec → State
filled_from m n (Some h) (Some r) = with_live m h (filled_of m n r)
filled_from m n _ _ = m

-- with the live object of the number active, with the values of its record
abbrev pub filled : State → ℕ → State
filled m n = filled_from m n (handle_of m n) (at m.session.records n)

-- the numbers that a record names in fields that are current
abbrev pub record_named : State → Option Rec → List ℕ
record_named m None = []
record_named m (Some r) = named_in m.session.schema r.class r.entries

-- Each of the numbers has an active live object with the values of its record, and each number that those name has a live object.
unfoldable pub all_filled : State → List ℕ → State
unfolding named_in filled_of
all_filled m ns =
    let w = all_woken m (fold (λ (all : List ℕ) n. n ∷ record_named m (at m.session.records n) ++ all) [] ns) in fold filled w ns

-- inactive, with the defaults
abbrev pub emptied : Live → Live
emptied o = record { class = o.class; number = o.number; active = false; entries = [] }

-- without a number; the values stay
abbrev pub detached : Live → Live
detached o = record { class = o.class; number = None; active = true; entries = o.entries }

-- each live object for which the test holds, changed
abbrev pub with_all : (ℕ → Live → Bool) → (Live → Live) → State → State
with_all test change m = record m { live = map (λ (e : ℕ × Live). (e.0, if test e.0 e.1 then change e.1 else e.1)) m.live }

-- ---- what a walk reached

-- the handle of a live node
abbrev pub handle_in : Node → Option ℕ
handle_in (node.Live h) = Some h
handle_in (node.Number n) = None

-- the handles of a table, ascending
abbrev pub handles_in : Table → List ℕ
handles_in t = filter_map (λ e. handle_in e.0) t

-- the live object, if it is of the kind that the test says
abbrev pub number_if : (Live → Bool) → Option Live → Option ℕ
number_if test None = None
number_if test (Some o) = if test o then o.number else None

-- the number of a node that is not live, or of a live one for which the test holds
abbrev pub node_number : (Live → Bool) → State → Node → Option ℕ
node_number test m (node.Live h) = number_if test (at m.live h)
node_number test m (node.Number n) = Some n

-- The numbers of a table, ascending. Those of live objects for which the test doesn't hold are left out.
abbrev pub numbers_in : (Live → Bool) → State → Table → List ℕ
numbers_in test m t = sorted nat_cmp (filter_map (λ e. node_number test m e.0) t)
