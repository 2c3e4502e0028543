-- What contracts see of the objects of a run over a file: which graph they are, and what the calls on it may do.
use base.Fml.{GName}
use Rattle.std.specs.Prelude.{◌≡◌, ◌≤◌, ◌+◌, ℕ, Bool, IsTrue, List, Option}
use Rattle.oc_host.specs.Counts.{Rose}
use Rattle.oc_host.specs.Disk.{Disk, Looks}
use Rattle.oc_layout.specs.declared.cells.Space.{Space}
use Rattle.oc_layout.specs.declared.cells.Space.TheVariants.{Objects}
use Rattle.oc_model.specs.declared.reach.Node.{Node}
use Rattle.oc_model.specs.declared.value.Rec.{Rec}
use Rattle.oc_model.specs.Lists.{IsOneOf}
use Rattle.oc_chunks.specs.Chunks.{joined}
use Rattle.oc_index.specs.declared.items.ExtentItem.{ExtentItem}
use Rattle.oc_slots.specs.declared.slot.Side.TheVariants.{Session}
use Rattle.oc_slots.specs.Cached.{Cached}
use Rattle.oc_slots.specs.Stores.{session}
use Rattle.oc_live.specs.Memories.{Memory}
use Rattle.oc_store.specs.declared.fault.ReadFault.{ReadFault}
use Rattle.oc_store.specs.declared.fault.ReadFault.TheVariants as read_fault
use Rattle.oc_store.specs.Filed.{class_on, FiledStore, IsRead}
use Rattle.oc_store.specs.Reindexing.{objects_len}
use Rattle.oc_store.specs.Stands.{object_slot}
use Rattle.oc_graph.specs.Sights.{records_of, Sight}

-- What is in memory, the store and its file, and how far the host has come. The names tell behind which references the store and the host are.
pub record RunObjects : Type 0 where
  pub store_name : GName
  pub host_name : GName
  pub memory : Memory
  pub store : FiledStore
  pub disk : Disk
  pub faults : ℕ
  pub taken : ℕ

-- ---- the graph

-- the objects of the session with their classes
abbrev pub extents_in : FiledStore → List ExtentItem
extents_in v = joined ((v.lists).extents).chunks

-- the objects in memory, and those of the session in this file
abbrev pub sight : Memory → FiledStore → Disk → Sight
sight k v d = record { live = k.live; schema = (v.session).schema; extents = extents_in v; slot = λ n. session v.slots d (object_slot n) }

-- those of a run
abbrev pub sight_of : RunObjects → Sight
sight_of o = sight o.memory o.store o.disk

-- ---- what calls do

-- the store with these slots kept in memory
abbrev pub keeping : Cached → FiledStore → FiledStore
keeping kept v = record v { slots = record (v.slots) { cached = kept } }

-- the session's record of the object is damaged: nothing can be read of it
abbrev pub IsDamagedRecord : FiledStore → Disk → ℕ → Type 0
IsDamagedRecord v d n = (found : Option Rec) → IsRead (v.session).schema (class_on Session v n) (session v.slots d (object_slot n)) found → ⊥

-- Nothing has changed but the slots that are kept in memory. The file was looked at alone, faults are no fewer, and of the records that are read to tell what these
-- nodes name no more was read than they are long.
pub record Goes (told : Bool) (s t : RunObjects) (xs : List Node) : Type 0 where
  pub store_name : t.store_name ≡ s.store_name
  pub host_name : t.host_name ≡ s.host_name
  pub memory : t.memory ≡ s.memory
  pub store : t.store ≡ keeping ((t.store).slots).cached s.store
  pub looks : IsTrue told → Looks s.disk t.disk
  pub faults : s.faults ≤ t.faults
  pub taken : t.taken ≤ s.taken + objects_len (s.store).slots (records_of (s.memory).live xs)

-- So it went until the fault, which comes of the host only where faults rose, and of a damaged slot only where it is that of a damaged record which is read to tell
-- what these nodes name.
pub record Caused (told : Bool) (s : RunObjects) (f : ReadFault) (t : RunObjects) (xs : List Node) : Type 0 where
  pub goes : Goes told s t xs
  pub host : f ≡ read_fault.Host → Rose s.faults t.faults
  pub damaged : (space : Space) (n : ℕ) → f ≡ read_fault.Damaged space n
      → (space ≡ Objects) × IsOneOf n (records_of (s.memory).live xs) × (IsTrue told → IsDamagedRecord s.store s.disk n)
