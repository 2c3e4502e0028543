use Rattle.std.proofs.Common.{◌≡◌, drop}
use Rattle.oc_run.specs.ListStore.{placed_from}
use Rattle.oc_run.proofs.list_store.slots.placed.Given as goal

abbrev pub invariant-loop-place : goal.invariant-loop-place
invariant-loop-place l = placed_from l.place (drop l.place l.fields) l.name ≡ placed_from l.from (drop l.from l.fields) l.name
