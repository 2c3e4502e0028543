-- What a container tells without its file: a state of the machine but for the values of stored objects.
use Rattle.std.specs.Prelude.{List, [], map, filter, nat_le}
use Rattle.oc_model.specs.declared.value.Rec.{Rec}
use Rattle.oc_model.specs.Maps.{Map}
use Rattle.oc_model.specs.States.{State, start}
use Rattle.oc_model.specs.Stores.{Store, empty_store}
use Rattle.oc_chunks.specs.Chunks.{joined}
use Rattle.oc_index.specs.declared.items.ExtentItem.{ExtentItem}
use Rattle.oc_live.specs.Memories.{Memory, with_memory}
use Rattle.oc_store.specs.Filed.{FiledStore}

-- the objects of these numbers and classes, as records without entries
abbrev pub listed : List ExtentItem → Map Rec
listed es = map (λ (e : ExtentItem). (e.number, record { class = e.class; entries = [] })) (filter (λ e. nat_le e.number 4294967295) es)

-- the session's schema, its next number, and its objects without their values
abbrev pub session_listed : FiledStore → Store
session_listed v = record { schema = (v.session).schema; next = (v.session).next; records = listed (joined ((v.lists).extents).chunks) }

-- the state with these objects in the session, and with this memory
abbrev pub outlined : FiledStore → Memory → State
outlined v k = with_memory (start (session_listed v)) k

-- a state with this memory, over stores without objects
abbrev pub remembered : Memory → State
remembered k = with_memory (start (empty_store 1)) k
