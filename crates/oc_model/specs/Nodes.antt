-- The nodes of a state, and what each of them names.
use Rattle.std.specs.Prelude.{ℕ, Bool, true, false, ◌||◌, ◌==◌, List, [], ◌++◌, map, filter, filter_map, flat_map, find, Option, Some, None, is_some, is_none, option_map, if◌then◌else◌}
use Rattle.oc_model.specs.declared.value.Entry.{Entry}
use Rattle.oc_model.specs.declared.value.Rec.{Rec}
use Rattle.oc_model.specs.declared.reach.Node.{Node}
use Rattle.oc_model.specs.declared.reach.Node.TheVariants as node
use Rattle.oc_model.specs.Maps.{at, keys}
use Rattle.oc_model.specs.References.{refs_in}
use Rattle.oc_model.specs.Schemas.{Schema, fields_of}
use Rattle.oc_model.specs.Stores.{Store, value_in, class_of}
use Rattle.oc_model.specs.States.{State, Live}

-- ---- live objects and numbers

-- the number is this one
abbrev pub is_number : ℕ → Option ℕ → Bool
is_number n None = false
is_number n (Some k) = k == n

-- the object has no number
abbrev pub is_unsaved : Live → Bool
is_unsaved o = is_none o.number

-- its values are in memory: it is active, as each unsaved one is
abbrev pub is_awake : Live → Bool
is_awake o = o.active || is_unsaved o

-- the handle of the live object of a number, if it has one
abbrev pub handle_of : State → ℕ → Option ℕ
handle_of m n = option_map (λ e. e.0) (find (λ e. is_number n (e.1).number) m.live)

-- the store has an object of this number
abbrev pub is_stored : Store → ℕ → Bool
is_stored s n = is_some (at s.records n)

-- ---- nodes

-- the live object, or the number where there is none
abbrev pub node_for : ℕ → Option ℕ → Node
node_for n None = node.Number n
node_for n (Some h) = node.Live h

-- the node of an object of the session; none for a number that the session hasn't
abbrev pub node_of : State → ℕ → Option Node
node_of m n = if is_stored m.session n then Some (node_for n (handle_of m n)) else None

-- the live objects, and the numbers of the session's other objects
abbrev pub nodes : State → List Node
nodes m = map node.Live (keys m.live) ++ map node.Number (filter (λ n. is_none (handle_of m n)) (keys m.session.records))

-- ---- what the fields name

-- what the current fields of a class name, where these are the entries
unfoldable pub named_in : Schema → ℕ → List Entry → List ℕ
unfolding fields_of
named_in s c entries = flat_map refs_in (map (λ f. value_in entries f.id f.kind) (fields_of s c))

-- what the values of a live object name
abbrev pub live_next : State → Live → List Node
live_next m o = map node.Live (named_in m.session.schema o.class o.entries)

-- what a record names; a reference to what the session hasn't names nothing
abbrev pub record_next : State → Option Rec → List Node
record_next m None = []
record_next m (Some r) = filter_map (node_of m) (named_in m.session.schema r.class r.entries)

-- what the session's record of a number names
abbrev pub stored_next : State → Option ℕ → List Node
stored_next m None = []
stored_next m (Some n) = record_next m (at m.session.records n)

-- what a live object names: by its values in memory, if the test holds for it, else by its record
abbrev pub object_next : (Live → Bool) → State → Option Live → List Node
object_next test m None = []
object_next test m (Some o) = if test o then live_next m o else stored_next m o.number

-- ---- what a walk sees

-- The values in memory, where they are there, else the session's record.
abbrev pub view_next : State → Node → List Node
view_next m (node.Live h) = object_next is_awake m (at m.live h)
view_next m (node.Number n) = stored_next m (Some n)

-- The session's record, also of an active object. An unsaved one has values in memory alone.
abbrev pub refresh_next : State → Node → List Node
refresh_next m (node.Live h) = object_next is_unsaved m (at m.live h)
refresh_next m (node.Number n) = stored_next m (Some n)

-- The values in memory alone.
abbrev pub memory_next : State → Node → List Node
memory_next m (node.Live h) = object_next (λ o. true) m (at m.live h)
memory_next m (node.Number n) = []

-- what a record of a store names within the store
abbrev pub side_named : Store → Option Rec → List Node
side_named s None = []
side_named s (Some r) = map node.Number (filter (is_stored s) (named_in s.schema r.class r.entries))

-- The records of one store alone.
abbrev pub side_next : Store → Node → List Node
side_next s (node.Live h) = []
side_next s (node.Number n) = side_named s (at s.records n)

-- ---- a node's class

-- the class of a live object, if it is there
abbrev pub live_class : Option Live → Option ℕ
live_class o = option_map (λ p. p.class) o

-- the class of a node
abbrev pub node_class : State → Node → Option ℕ
node_class m (node.Live h) = live_class (at m.live h)
node_class m (node.Number n) = class_of m.session n

-- a live object is there, and has no number
abbrev pub is_unsaved_at : Option Live → Bool
is_unsaved_at None = false
is_unsaved_at (Some o) = is_unsaved o

-- the node is a live object without a number
abbrev pub is_unsaved_node : State → Node → Bool
is_unsaved_node m (node.Live h) = is_unsaved_at (at m.live h)
is_unsaved_node m (node.Number n) = false
