use Rattle.std.proofs.Common.{◌≡◌, ◌+◌, sum_by, drop}
use Rattle.oc_model.specs.Stores.{entry_len}
use Rattle.oc_run.proofs.list_store.length.pay_entries.Given as goal

abbrev pub invariant-loop-entry : goal.invariant-loop-entry
invariant-loop-entry l = l.left + sum_by entry_len l.entries ≡ l.room + sum_by entry_len (drop l.entry-index l.entries)
