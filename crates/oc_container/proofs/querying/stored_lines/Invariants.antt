use Rattle.std.proofs.Common.{◌≡◌, ◌≤◌, ◌+◌, ◌++◌, drop, filter_map}
use Rattle.std.specs.Prelude.{IsTrue}
use Rattle.oc_host.specs.Disk.{Looks}
use Rattle.oc_model.specs.Stores.{Store}
use Rattle.oc_machine.specs.Showing.{stored_line}
use Rattle.oc_store.specs.Filed.{Agrees, Shows}
use Rattle.oc_store.specs.Reindexing.{objects_len}
use Rattle.oc_container.specs.Contained.{keeping}
use Rattle.oc_container.proofs.querying.stored_lines.Given as goal

-- the first objects are shown, and the rest are still to come
abbrev pub invariant-loop-number : goal.invariant-loop-number
invariant-loop-number g l = record {
  lines : IsTrue g.H.Host.tells → (c s : Store) → Shows l.fn.store (g.H.Host.disk l.fn.host) c s → l.lines ++ filter_map (stored_line s) (drop l.number-index l.numbers) ≡ filter_map (stored_line s) l.numbers;
  agrees : IsTrue g.H.Host.tells → Agrees l.store (g.H.Host.disk l.host);
  shows : IsTrue g.H.Host.tells → (c s : Store) → Shows l.fn.store (g.H.Host.disk l.fn.host) c s → Shows l.store (g.H.Host.disk l.host) c s;
  same : l.store ≡ keeping ((l.store).slots).cached l.fn.store;
  looks : IsTrue g.H.Host.tells → Looks (g.H.Host.disk l.fn.host) (g.H.Host.disk l.host);
  later : g.H.Host.faults l.fn.host ≤ g.H.Host.faults l.host;
  taken : g.H.Host.taken l.host + objects_len (l.fn.store).slots (drop l.number-index l.numbers) ≤ g.H.Host.taken l.fn.host + objects_len (l.fn.store).slots l.numbers;
}
