use Rattle.std.proofs.Common.{◌≡◌, drop}
use Rattle.oc_slots.specs.Cached.{without}
use Rattle.oc_slots.specs.Noting.{left_by}
use Rattle.oc_slots.proofs.forgetting.forget_changed.Given as goal

abbrev pub invariant-loop-change : goal.invariant-loop-change
invariant-loop-change l = without (left_by l.overlay (drop l.change-index l.placed)) l.cache ≡ without (left_by l.overlay l.placed) l.initial.cache
