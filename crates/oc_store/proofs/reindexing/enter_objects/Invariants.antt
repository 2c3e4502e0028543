use Rattle.std.proofs.Common.{◌≡◌, ◌≤◌, ◌+◌, ℕ, Bool, take, drop}
use Rattle.std.specs.Prelude.{IsTrue}
use Rattle.oc_host.specs.Disk.{Looks}
use Rattle.oc_model.specs.Maps.{at}
use Rattle.oc_model.specs.SchemaRules.{are_apart}
use Rattle.oc_model.specs.StoreRules.{KeepsStore}
use Rattle.oc_model.specs.Stores.{Store}
use Rattle.oc_lists.specs.Following.{newly_indexed, records_of, AreEntering}
use Rattle.oc_lists.specs.Keeping.{AreKept, AreListsOf, AreNumbered}
use Rattle.oc_slots.specs.Stores.{session, Agrees}
use Rattle.oc_store.specs.Reindexing.{objects_len}
use Rattle.oc_store.specs.Stands.{object_slot, SpellsObject}
use Rattle.oc_store.proofs.reindexing.enter_objects.Given as goal

-- the first objects are entered, and the rest are still to come
abbrev pub invariant-loop-number : goal.invariant-loop-number
invariant-loop-number g l = record {
  extents : (l.indexes).extents ≡ (l.fn.indexes).extents;
  marked : (l.indexes).marked ≡ (l.fn.indexes).marked;
  kept : AreKept l.fn.indexes → AreKept l.indexes;
  numbered : (has_slot : ℕ → Bool) → AreNumbered has_slot l.fn.indexes → AreNumbered has_slot l.indexes;
  lists : AreListsOf l.new l.indexes;
  entered : IsTrue g.H.Host.tells → (s : Store) → l.started ≡ newly_indexed s.schema l.new → KeepsStore s → ((n : ℕ) → SpellsObject (session l.fn.slots (g.H.Host.disk l.fn.host) (object_slot n)) (at s.records n)) → IsTrue (are_apart l.numbers)
      → AreEntering l.fn.indexes s l.new (records_of (take 0 l.numbers) s.records) → AreEntering l.indexes s l.new (records_of (take l.number-index l.numbers) s.records);
  same : l.slots ≡ record l.fn.slots { cached = (l.slots).cached };
  agrees : IsTrue g.H.Host.tells → Agrees l.slots (g.H.Host.disk l.host);
  looks : IsTrue g.H.Host.tells → Looks (g.H.Host.disk l.fn.host) (g.H.Host.disk l.host);
  later : g.H.Host.faults l.fn.host ≤ g.H.Host.faults l.host;
  taken : g.H.Host.taken l.host + objects_len l.fn.slots (drop l.number-index l.numbers) ≤ g.H.Host.taken l.fn.host + objects_len l.fn.slots l.numbers;
}
