use Rattle.std.proofs.Common.{◌≡◌, take}
use Rattle.oc_slots.specs.Cached.{without}
use Rattle.oc_slots.proofs.cache.SlotCache.forget_all.Given as goal

abbrev pub invariant-loop-cell : goal.invariant-loop-cell
invariant-loop-cell l = l.self ≡ without (take l.cell-index l.cells) l.initial.self
