use Rattle.std.proofs.Common.{◌≡◌, ℕ, List, drop, take, is_some}
use Rattle.oc_model.specs.StoreRules.{KeepsStore}
use Rattle.oc_model.specs.Stores.{class_of, Store}
use Rattle.oc_chunks.specs.Chunks.{joined}
use Rattle.oc_index.specs.declared.items.ExtentItem.{ExtentItem}
use Rattle.oc_lists.specs.Changing.{store_changed, there_after, AreOld, AreRecChanges}
use Rattle.oc_lists.specs.Keeping.{AreListsOf, AreNoted}
use Rattle.oc_lists.specs.Lists.{class_in, HasLists}
use Rattle.oc_lists.specs.Moving.{AreMoved}
use Rattle.oc_lists.specs.Staying.{keep_key, Stay}
use Rattle.oc_lists.proofs.Staying.{AreListed}
use Rattle.oc_lists.proofs.relisting.relist.Given as goal

abbrev pub invariant-loop-place : goal.invariant-loop-place
invariant-loop-place l = record {
  moved : AreMoved l.fn.indexes l.indexes;
  untouched : AreListed l.changes l.fn.indexes → l.indexes.extents ≡ l.fn.indexes.extents;
  stays : Stay (keep_key l.schema l.olds l.changes) l.fn.indexes l.indexes;
  lists : AreListsOf l.schema l.fn.indexes → AreListsOf l.schema l.indexes;
  there : (n : ℕ) → there_after (drop l.place l.changes) n (is_some (class_in (joined l.indexes.extents.chunks) n)) ≡ there_after l.changes n (is_some (class_in (joined l.fn.indexes.extents.chunks) n));
  noted : (then : List ExtentItem) → AreNoted l.fn.classes.entries (joined l.fn.indexes.extents.chunks) then → AreNoted l.classes.entries (joined l.indexes.extents.chunks) then;
  has : (s : Store) (next : ℕ) → KeepsStore s → s.schema ≡ l.schema → AreRecChanges s.schema (class_of s) s.next next l.changes → AreOld s.records l.changes l.olds → HasLists l.fn.indexes s → HasLists l.indexes (store_changed next (take l.place l.changes) s);
}
