use Rattle.std.proofs.Common.{◌≡◌, ◌≤◌, ◌+◌, ℕ, take, drop, map, option_map}
use Rattle.std.specs.Prelude.{IfSome, IsTrue}
use Rattle.oc_host.specs.Disk.{Looks}
use Rattle.oc_model.specs.declared.value.Rec.{Rec}
use Rattle.std.proofs.Common.{Option}
use Rattle.oc_model.specs.Maps.{at, Map}
use Rattle.oc_model.specs.StoreRules.{Suits}
use Rattle.oc_chunks.specs.Ascending.{Each}
use Rattle.oc_chunks.specs.Chunks.{joined}
use Rattle.oc_lists.specs.Changing.{AreOld}
use Rattle.oc_lists.specs.Lists.{class_in}
use Rattle.oc_slots.specs.Stores.{session, Agrees}
use Rattle.oc_store.specs.Changed.{old_len, AreOfClasses}
use Rattle.oc_store.specs.Stands.{object_slot, SpellsObject}
use Rattle.oc_store.proofs.olds.fetch_olds.Given as goal

-- the records of the first changes are fetched, and those of the rest are still to come
abbrev pub invariant-loop-change : goal.invariant-loop-change
invariant-loop-change g l = record {
  olds : IsTrue g.H.Host.tells → (m : Map Rec) → ((n : ℕ) → SpellsObject (session l.fn.slots (g.H.Host.disk l.fn.host) (object_slot n)) (at m n)) → AreOld m (take l.change-index l.changes) l.olds.items;
  classes : AreOfClasses (class_in (joined (l.extents).chunks)) (take l.change-index l.changes) l.olds.items;
  suit : Each (λ (o : Option Rec). IfSome o (Suits l.schema)) l.olds.items;
  same : l.slots ≡ record l.fn.slots { cached = (l.slots).cached };
  agrees : IsTrue g.H.Host.tells → Agrees l.slots (g.H.Host.disk l.host);
  looks : IsTrue g.H.Host.tells → Looks (g.H.Host.disk l.fn.host) (g.H.Host.disk l.host);
  later : g.H.Host.faults l.fn.host ≤ g.H.Host.faults l.host;
  taken : g.H.Host.taken l.host + old_len l.fn.slots (drop l.change-index l.changes) ≤ g.H.Host.taken l.fn.host + old_len l.fn.slots l.changes;
}
