-- The part of a state beside its two stores: the live objects, the names, the settings and the count of commits.
use Rattle.std.specs.Prelude.{◌≡◌, ℕ, ◌+◌, ◌<◌, ◌≤◌, Bool, true, List, [], Option, None, Some, option_map, unwrap_or, find, filter, nat_lt, nat_le, is_some, ◌↔◌}
use Rattle.std.specs.FinMap.{is_sorted}
use Rattle.std.specs.Ordering.{nat_cmp}
use Rattle.oc_model.specs.declared.value.Entry.{Entry}
use Rattle.oc_model.specs.declared.reach.ClassSettings.{ClassSettings}
use Rattle.oc_model.specs.Maps.{Map, Text, at, with_at}
use Rattle.oc_model.specs.States.{State, Live, Settings, start_settings}
use Rattle.oc_model.specs.Nodes.{is_number}
use Rattle.oc_heap.specs.declared.heap.Live.{Live as Held}

-- What a state has beside its two stores, part for part.
pub record Memory : Type 0 where
  -- the live objects, by handle
  pub live : Map Live
  -- the handle that the next one gets
  pub next_handle : ℕ
  -- the bound names with the handles of their objects, in the order in which they were first bound
  pub names : List (Text × ℕ)
  pub settings : Settings
  -- how many commits the run has made
  pub commits : ℕ

-- that part of a state
abbrev pub memory_of : State → Memory
memory_of m = record { live = m.live; next_handle = m.next_handle; names = m.names; settings = m.settings; commits = m.commits }

-- the state with this instead
abbrev pub with_memory : State → Memory → State
with_memory m k =
    record m { live = k.live; next_handle = k.next_handle; names = k.names; settings = k.settings; commits = k.commits }

-- as a run begins
abbrev pub start_memory : Memory
start_memory = record { live = []; next_handle = 1; names = []; settings = start_settings; commits = 0 }

-- ---- live objects

-- an unsaved object of the class, without entries
abbrev pub unsaved : ℕ → Live
unsaved c = record { class = c; number = None; active = true; entries = [] }

-- with one live object more, under the next handle
abbrev pub with_new : Memory → Live → Memory
with_new m o = record m { live = with_at m.live m.next_handle o; next_handle = m.next_handle + 1 }

-- with what is made of the live object under the handle
abbrev pub with_changed : Memory → ℕ → (Live → Live) → Memory
with_changed m h change = unwrap_or (option_map (λ o. record m { live = with_at m.live h (change o) }) (at m.live h)) m

-- the object with what is made of its entries
abbrev pub refilled : (List Entry → List Entry) → Live → Live
refilled f o = record o { entries = f o.entries }

-- the object with this number, active or not
abbrev pub numbered : ℕ → Bool → Live → Live
numbered n active o = record o { number = Some n; active = active }

-- the object, active or not
abbrev pub turned : Bool → Live → Live
turned active o = record o { active = active }

-- the class and the entries of an object
abbrev pub held_of : Live → Held
held_of o = record { class = o.class; entries = o.entries }

-- the handle of the live object with the number
abbrev pub handle_in : Map Live → ℕ → Option ℕ
handle_in live n = option_map (λ e. e.0) (find (λ e. is_number n (e.1).number) live)

-- The live handles are those from the first on and below the next one, each once and in their order.
pub record LiveFrom (m : Memory) (first : ℕ) : Type 0 where
  pub ascend : is_sorted nat_cmp m.live ≡ true
  pub starts : 1 ≤ first
  pub order : first ≤ m.next_handle
  pub live : (h : ℕ) → (is_some (at m.live h) ≡ true) ↔ ((first ≤ h) × (h < m.next_handle))

-- no live object and no name
abbrev pub cleared : Memory → Memory
cleared m = record m { live = []; names = [] }

-- without the objects from this handle on, which is the next one again
abbrev pub back_to : Memory → ℕ → Memory
back_to m h = record m { live = filter (λ e. nat_lt e.0 h) m.live; next_handle = h }

-- ---- settings

-- with these settings of a class, in place of those that it had
abbrev pub with_class : Settings → ℕ → ClassSettings → Settings
with_class s class to = record s { classes = with_at s.classes class to }

-- without the settings of the classes with a greater number
abbrev pub with_classes_to : Settings → ℕ → Settings
with_classes_to s classes = record s { classes = filter (λ e. nat_le e.0 classes) s.classes }
