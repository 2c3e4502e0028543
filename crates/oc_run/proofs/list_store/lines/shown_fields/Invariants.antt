use Rattle.std.proofs.Common.{◌≡◌, ◌++◌, drop}
use Rattle.std.specs.Slice.Iter.{iter_rest}
use Rattle.oc_run.specs.ListStore.{shown_in_order}
use Rattle.oc_run.proofs.list_store.lines.shown_fields.Given as goal

abbrev pub invariant-loop-field : goal.invariant-loop-field
invariant-loop-field l = l.shown ++ shown_in_order l.count (drop l.field-index l.fields) (iter_rest l.values) ≡ shown_in_order l.count l.fields l.entries
