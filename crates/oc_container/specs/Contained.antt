-- What contracts see of a container, and which state of the machine it is.
use Rattle.std.specs.Prelude.{◌≡◌, ◌⊎◌, nat_lt, IsTrue}
use Rattle.std.specs.List.{list_all}
use Rattle.oc_host.specs.Disk.{Disk}
use Rattle.oc_model.specs.States.{State, Settings}
use Rattle.oc_model.specs.declared.answer.Answer.{Answer}
use Rattle.oc_machine.specs.Outcomes.{Outcome}
use Rattle.oc_live.specs.Memories.{Memory, memory_of}
use Rattle.oc_slots.specs.Cached.{Cached}
use Rattle.oc_store.specs.Changed.{IsSameStore}
use Rattle.oc_store.specs.Filed.{FiledStore, Shows}

-- The two stores in the file, and what is in memory beside them.
pub record Contained : Type 0 where
  pub store : FiledStore
  pub memory : Memory

-- The container in this file is the state.
pub record Holds (v : Contained) (disk : Disk) (m : State) : Type 0 where
  pub stores : Shows v.store disk m.committed m.session
  pub memory : v.memory ≡ memory_of m

-- what holds of every container: settings are those of classes, which have numbers from 1 on
abbrev pub AreOfClasses : Settings → Type 0
AreOfClasses settings = IsTrue (list_all (λ e. nat_lt 0 e.0) settings.classes)

-- The container is in the new state of the outcome, and this is its answer.
pub record Meets (v : Contained) (disk : Disk) (a : Answer) (o : Outcome) : Type 0 where
  pub state : Holds v disk o.0
  pub answer : a ≡ o.1

-- Nothing has changed, but for the slots that are kept in memory.
pub record IsSame (old new : Contained) : Type 0 where
  pub store : IsSameStore old.store new.store
  pub memory : new.memory ≡ old.memory

-- What is left of the store after a fault: it is as it was, or its session is given up.
abbrev pub IsSpent : Contained → Disk → State → Type 0
IsSpent v disk m = Shows v.store disk m.committed m.session ⊎ Shows v.store disk m.committed m.committed

-- the store with these slots kept in memory
abbrev pub keeping : Cached → FiledStore → FiledStore
keeping kept v = record v { slots = record (v.slots) { cached = kept } }
