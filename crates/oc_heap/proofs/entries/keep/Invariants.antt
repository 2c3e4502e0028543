use Rattle.std.proofs.Common.{◌≡◌, ◌++◌, take, drop, filter}
use Rattle.oc_model.specs.Maps.{is_in}
use Rattle.oc_heap.proofs.entries.keep.Given as goal

-- the entries before the place are as they were, and of those behind it the ones with these ids are left
abbrev pub invariant-loop-place : goal.invariant-loop-place
invariant-loop-place l = l.entries ≡ take l.place l.fn.entries ++ filter (λ e. is_in l.ids e.id) (drop l.place l.fn.entries)
