-- Live objects as they are kept: class and entries in a heap, number and active state in a reference table.
use Rattle.std.specs.Prelude.{◌≡◌, ℕ, true, List, map, Option, None, Some, is_some, option_map, unwrap_or}
use Rattle.oc_model.specs.Maps.{Map, Text, at}
use Rattle.oc_model.specs.Lists.{IsOneOf}
use Rattle.oc_model.specs.States.{Live, Settings}
use Rattle.oc_heap.specs.declared.heap.Live.{Live as Held}
use Rattle.oc_heap.specs.Heaps.{Objects, HasHandles}
use Rattle.oc_refs.specs.declared.table.Ref.{Ref}
use Rattle.oc_refs.specs.Triples.{by_number, by_handle, without}
use Rattle.oc_live.specs.Memories.{Memory}

-- the object with what its triple says; one without a triple is unsaved, and active
abbrev pub with_triple : Option Ref → Held → Live
with_triple None o = record { class = o.class; number = None; active = true; entries = o.entries }
with_triple (Some r) o = record { class = o.class; number = Some r.number; active = r.active; entries = o.entries }

-- the object under a handle
abbrev pub joined : List Ref → ℕ → Held → Live
joined refs h o = with_triple (by_handle refs h) o

-- the live objects, by handle
abbrev pub live_in : List Ref → Map Held → Map Live
live_in refs objects = map (λ (e : ℕ × Held). (e.0, joined refs e.0 e.1)) objects

-- the triples without the one of the handle
abbrev pub released : List Ref → ℕ → List Ref
released refs h = unwrap_or (option_map (λ r. without r.number refs) (by_handle refs h)) refs

-- what stands in memory, part for part
abbrev pub memory_in : Objects → List Ref → List (Text × ℕ) → Settings → ℕ → Memory
memory_in heap refs names settings commits =
    record { live = live_in refs heap.live; next_handle = heap.next; names = names; settings = settings; commits = commits }

-- Each triple is the only one with its number and the only one with its handle, and its object is live.
pub record AreJoined (heap : Objects) (refs : List Ref) : Type 0 where
  pub handles : HasHandles heap
  pub numbers : (r : Ref) → IsOneOf r refs → by_number refs r.number ≡ Some r
  pub objects : (r : Ref) → IsOneOf r refs → by_handle refs r.handle ≡ Some r
  pub live : (r : Ref) → IsOneOf r refs → is_some (at heap.live r.handle) ≡ true

-- The table has exactly the number, the handle and the active state of each live object that has a number.
pub record ListsAll (refs : List Ref) (live : Map Live) : Type 0 where
  pub sound : (r : Ref) → IsOneOf r refs → (o : Live) × (at live r.handle ≡ Some o) × (o.number ≡ Some r.number) × (o.active ≡ r.active)
  pub complete : (h n : ℕ) (o : Live) → at live h ≡ Some o → o.number ≡ Some n → IsOneOf (record { number = n; handle = h; active = o.active }) refs
