-- Objects in a row, under handles without a gap.
use Rattle.std.specs.Prelude.{ℕ, ◌+◌, ◌^◌, ◌≤◌, ◌<◌, List, length}
use Rattle.std.specs.List.{enumerate_from}
use Rattle.oc_heap.specs.declared.heap.Live.{Live}
use Rattle.oc_heap.specs.Heaps.{Objects}

-- the objects in their order under the handles from the first on
abbrev pub objects_of : ℕ → List Live → Objects
objects_of first os = record { live = enumerate_from first os; first = first; next = first + length os }

-- Handles begin at 1, and the next one is a handle too.
pub record KeepsHandles (first : ℕ) (os : List Live) : Type 0 where
  pub starts : 1 ≤ first
  pub ends : first + length os < 2 ^ 64
