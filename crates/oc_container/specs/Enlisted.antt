-- What memory becomes where unsaved objects get the next numbers.
use Rattle.std.specs.Prelude.{◌≡◌, ℕ, ◌+◌, true, List, [], ◌∷◌, None, Some, is_some, length}
use Rattle.oc_model.specs.Maps.{at}
use Rattle.oc_model.specs.States.{Live, State}
use Rattle.oc_machine.specs.Memory.{number_at}
use Rattle.oc_live.specs.Memories.{memory_of, with_changed, with_memory, Memory}

-- the object with this number
abbrev pub given : ℕ → Live → Live
given n o = record { class = o.class; number = Some n; active = o.active; entries = o.entries }

-- with the numbers from this one on given to these objects, in their order
abbrev pub enlisted : Memory → ℕ → List ℕ → Memory
enlisted k n [] = k
enlisted k n (h ∷ hs) = enlisted (with_changed k h (given n)) (n + 1) hs

-- there is a live object under the handle, and it has no number
abbrev pub IsUnsaved : Memory → ℕ → Type 0
IsUnsaved k h = (is_some (at k.live h) ≡ true) × (number_at (at k.live h) ≡ None)

-- the state with the session's next numbers given to these objects
abbrev pub numbered : State → List ℕ → State
numbered m hs = with_memory (record m { session = record m.session { next = m.session.next + length hs } }) (enlisted (memory_of m) m.session.next hs)
