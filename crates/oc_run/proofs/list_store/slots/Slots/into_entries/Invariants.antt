use Rattle.std.proofs.Common.{◌≡◌, ◌++◌, drop}
use Rattle.std.specs.Vec.Iter.{into_iter_items}
use Rattle.oc_run.specs.ListStore.{filled}
use Rattle.oc_run.proofs.list_store.slots.Slots.into_entries.Given as goal

abbrev pub invariant-loop-field : goal.invariant-loop-field
invariant-loop-field l = l.entries ++ filled (drop l.field-index l.fields) (into_iter_items l.values) ≡ filled l.fields (into_iter_items l.initial.values)
