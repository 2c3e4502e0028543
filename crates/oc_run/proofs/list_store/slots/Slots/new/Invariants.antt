use Rattle.std.proofs.Common.{◌≡◌, ◌++◌, drop}
use Rattle.oc_run.specs.ListStore.{blank}
use Rattle.oc_run.proofs.list_store.slots.Slots.new.Given as goal

abbrev pub invariant-loop-field : goal.invariant-loop-field
invariant-loop-field l = l.values.items ++ blank (drop l._field-index l.fields) ≡ blank l.fields
