use Rattle.std.proofs.Common.{◌≡◌, ◌+◌, ◌++◌, length, drop}
use Rattle.oc_run.specs.ListStore.{lines_from}
use Rattle.oc_run.proofs.list_store.lines.lines.Given as goal

abbrev pub invariant-loop-record : goal.invariant-loop-record
invariant-loop-record l =
    record {
      next : l.next ≡ l.record-index + 1;
      rest : l.lines ++ lines_from (length l.records) l.class l.number l.next (drop l.record-index l.records) ≡ lines_from (length l.records) l.class l.number 1 l.records;
    }
