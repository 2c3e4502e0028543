use Rattle.std.proofs.Common.{◌≡◌, drop}
use Rattle.oc_slots.specs.Cached.{without}
use Rattle.oc_slots.specs.Slots.{places_in}
use Rattle.oc_slots.proofs.forgetting.forget_places.Given as goal

abbrev pub invariant-loop-index : goal.invariant-loop-index
invariant-loop-index l = without (places_in (drop l.index l.changes.entries)) l.cache ≡ without (places_in l.changes.entries) l.initial.cache
