-- The graph of the objects in memory, and of stored ones whose records stand as bytes.
use Rattle.std.specs.Prelude.{ℕ, ◌&&◌, Bool, false, nat_le, List, [], ◌++◌, map, filter, filter_map, flat_map, Option, Some, None, is_some, is_none, if◌then◌else◌}
use Rattle.oc_model.specs.declared.reach.Node.{Node}
use Rattle.oc_model.specs.declared.reach.Node.TheVariants as node
use Rattle.oc_model.specs.Maps.{Map, at, keys}
use Rattle.oc_model.specs.Nodes.{is_awake, is_unsaved_at, live_class, named_in, node_for}
use Rattle.oc_model.specs.Schemas.{Schema, fields_of}
use Rattle.oc_model.specs.States.{Live}
use Rattle.oc_index.specs.declared.items.ExtentItem.{ExtentItem}
use Rattle.oc_lists.specs.Lists.{class_in}
use Rattle.oc_live.specs.Memories.{handle_in}
use Rattle.oc_reach.specs.Graphs.{Shown}
use Rattle.oc_graph.specs.Spelled.{named_of, under}

-- What the graph is made of.
pub record Sight : Type 0 where
  -- the live objects, by handle
  pub live : Map Live
  pub schema : Schema
  -- the stored objects with their classes
  pub extents : List ExtentItem
  -- the bytes of the record of a stored object
  pub slot : ℕ → Option (List ℕ)

-- ---- nodes

-- there is a stored object of this number
abbrev pub is_held : List ExtentItem → ℕ → Bool
is_held extents n = nat_le n 4294967295 && is_some (class_in extents n)

-- the node of a stored object, none for a number that no stored object has
abbrev pub node_in : Map Live → List ExtentItem → ℕ → Option Node
node_in live extents n = if is_held extents n then Some (node_for n (handle_in live n)) else None

-- the numbers of the stored objects
abbrev pub numbers_in : List ExtentItem → List ℕ
numbers_in extents = map (λ (e : ExtentItem). e.number) extents

-- the live objects, and the numbers of the other stored objects
abbrev pub nodes_in : Map Live → List ExtentItem → List Node
nodes_in live extents = map node.Live (keys live) ++ map node.Number (filter (λ n. is_none (handle_in live n)) (numbers_in extents))

-- the class of a node
abbrev pub node_class_in : Map Live → List ExtentItem → Node → Option ℕ
node_class_in live extents (node.Live h) = live_class (at live h)
node_class_in live extents (node.Number n) = class_in extents n

-- the node is a live object without a number
abbrev pub is_unsaved_in : Map Live → Node → Bool
is_unsaved_in live (node.Live h) = is_unsaved_at (at live h)
is_unsaved_in live (node.Number n) = false

-- ---- what the nodes name

-- what the record of an object of this class names, where these are its bytes
abbrev pub names_in_bytes : Schema → Option ℕ → Option (List ℕ) → List ℕ
names_in_bytes s None b = []
names_in_bytes s (Some c) None = []
names_in_bytes s (Some c) (Some b) = flat_map (under (named_of b)) (fields_of s c)

-- what the record of a stored object names; a reference to what isn't stored names nothing
abbrev pub record_next_in : Sight → Option ℕ → List Node
record_next_in g None = []
record_next_in g (Some n) = filter_map (node_in g.live g.extents) (names_in_bytes g.schema (class_in g.extents n) (g.slot n))

-- the nodes of those of the handles that are live
abbrev pub live_nodes_in : Map Live → List ℕ → List Node
live_nodes_in live handles = map node.Live (filter (λ h. is_some (at live h)) handles)

-- what the values of a live object name; a handle that isn't live names nothing
abbrev pub values_next_in : Map Live → Schema → Option Live → List Node
values_next_in live s None = []
values_next_in live s (Some o) = live_nodes_in live (named_in s o.class o.entries)

-- what a live object names: by its values where they are in memory, else by its record
abbrev pub live_next_in : Sight → Option Live → List Node
live_next_in g None = []
live_next_in g (Some o) = if is_awake o then values_next_in g.live g.schema (Some o) else record_next_in g o.number

-- what a node names
abbrev pub next_in : Sight → Node → List Node
next_in g (node.Live h) = live_next_in g (at g.live h)
next_in g (node.Number n) = record_next_in g (Some n)

-- The graph. What a node names is shown only where the bytes are told.
abbrev pub graph_in : Bool → Sight → Shown
graph_in told g = record { nodes = nodes_in g.live g.extents; class = node_class_in g.live g.extents; unsaved = is_unsaved_in g.live; next = λ x. if told then next_in g x else [] }

-- ---- which records are read

-- the number under which a live object's record is read, none where its values are in memory
abbrev pub record_of_live : Option Live → Option ℕ
record_of_live None = None
record_of_live (Some o) = if is_awake o then None else o.number

-- the number of the record that is read to tell what a node names, none where none is read
abbrev pub record_of : Map Live → Node → Option ℕ
record_of live (node.Live h) = record_of_live (at live h)
record_of live (node.Number n) = Some n

-- the records that are read to tell what these nodes name
abbrev pub records_of : Map Live → List Node → List ℕ
records_of live xs = filter_map (record_of live) xs

-- what the values in memory of a node's live object name
abbrev pub values_at : Map Live → Schema → Node → List Node
values_at live s (node.Live h) = values_next_in live s (at live h)
values_at live s (node.Number n) = []
