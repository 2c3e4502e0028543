use Rattle.std.proofs.Common.{◌≡◌, ◌≤◌, ◌+◌, ℕ, None, length, drop, true}
use Rattle.oc_live.specs.Memories.{handle_in}
use Rattle.oc_store.specs.Numbering.{AreRising}
use Rattle.oc_container.specs.Enlisted.{enlisted}
use Rattle.oc_container.proofs.EnlistedNumbers.{AreUnsaved}
use Rattle.oc_container.proofs.enlisting.enlist_all.Given as goal

-- the others are to get their numbers, from this one on
abbrev pub invariant-loop-handle : goal.invariant-loop-handle
invariant-loop-handle l =
    (l.number ≡ l.next + l.handle-index)
    × (enlisted l.live l.number (drop l.handle-index l.handles) ≡ enlisted l.fn.live l.next l.handles)
    × AreUnsaved l.live (drop l.handle-index l.handles)
    × AreRising (drop l.handle-index l.handles)
    × ((n : ℕ) → l.number ≤ n → handle_in l.live.live n ≡ None)
