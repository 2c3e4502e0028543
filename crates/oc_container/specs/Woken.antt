-- What memory becomes where numbers get live objects.
use Rattle.std.specs.Prelude.{◌≡◌, ℕ, ◌≤◌, List, [], fold, Option, Some, None, is_none, if◌then◌else◌, false}
use Rattle.std.specs.Ordering.{nat_cmp}
use Rattle.oc_model.specs.Lists.{sorted}
use Rattle.oc_model.specs.States.{Live}
use Rattle.oc_live.specs.Memories.{Memory, LiveFrom, back_to, handle_in, with_new}

-- an inactive object of the class, with this number
abbrev pub stub : ℕ → ℕ → Live
stub n c = record { class = c; number = Some n; active = false; entries = [] }

-- with a new inactive object of the number, if it has a class
abbrev pub with_stub : Memory → ℕ → Option ℕ → Memory
with_stub k n None = k
with_stub k n (Some c) = with_new k (stub n c)

-- with a live object for the number of an object of this class: an inactive one where there was none
abbrev pub with_woken : Memory → ℕ → Option ℕ → Memory
with_woken k n class = if is_none (handle_in k.live n) then with_stub k n class else k

-- the same for these numbers, one after the other
abbrev pub with_each_woken : (ℕ → Option ℕ) → Memory → List ℕ → Memory
with_each_woken class k ns = fold (λ (k : Memory) n. with_woken k n (class n)) k ns

-- the same for these numbers in ascending order
abbrev pub with_all_woken : (ℕ → Option ℕ) → Memory → List ℕ → Memory
with_all_woken class k ns = with_each_woken class k (sorted nat_cmp ns)

-- The new memory is the old one with live objects more, under the handles from its next one on.
pub record HasMore (old new : Memory) : Type 0 where
  pub later : old.next_handle ≤ new.next_handle
  pub from : (first : ℕ) → LiveFrom old first → LiveFrom new first
  pub back : (first : ℕ) → LiveFrom old first → back_to new old.next_handle ≡ old
