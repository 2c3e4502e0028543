-- What is left once the session is given up.
use Rattle.std.proofs.Common.{◌≡◌, ap, sym, refl, subst, ℕ, ◌≤◌, Bool, false, [], Option, None, arith}
use Rattle.std.specs.Prelude.{unwrap_or}
use Rattle.oc_host.specs.Disk.{Disk}
use Rattle.oc_model.specs.Schemas.{Schema}
use Rattle.oc_model.specs.Stores.{Store}
use Rattle.oc_index.specs.Indexed.{StoreLists}
use Rattle.oc_slots.specs.Held.{map_of}
use Rattle.oc_slots.specs.Stores.{Slots, committed, committed_place, session}
use Rattle.oc_slots.specs.Stores as slots
use Rattle.oc_lists.specs.Keeping.{Noted}
use Rattle.oc_lists.specs.Lists.{lists_then, IsMarked}
use Rattle.oc_store.specs.Filed.{Agrees, FiledStore, IsFiled, IsFresh, IsStoreOf, Shows}
use Rattle.oc_store.specs.Outlines.{IsOutline}
use Rattle.oc_store.specs.Sides.{AreWritten, Heading, IsSide}
use Rattle.oc_store.specs.Stands.{Spells}
use Rattle.oc_store.proofs.Fresh.{fresh_filed, fresh_store, same_slots}

-- the lists as they were at the mark, of which nothing changed
pub then_marked : (l : StoreLists) → AreWritten (lists_then l) → IsMarked (lists_then l)
then_marked l w = record { extents = refl; fields = refl; each = w.marked }

module _ (s t : Slots) (then now : Heading) (l : StoreLists) (classes : Noted) (filed : IsFiled s then now l classes) (pages : t.pages ≡ s.pages) (objects : t.objects ≡ []) (system : t.system ≡ []) where
  pub rolled_filed : IsFiled t then then (lists_then l) []
  rolled_filed = fresh_filed t then (lists_then l) objects system (subst (λ ps. IsSide (committed_place (record t { pages = ps })) then (lists_then l)) (sym pages) filed.committed) filed.written (then_marked l filed.written)

-- ---- a session that was given up

-- the store with these parts, where the session may have a next number, a schema and lists of its own
abbrev pub parted_store : Slots → Heading → ℕ → Option Schema → StoreLists → Bool → FiledStore
parted_store t h next own k b = record { slots = t; committed = h; session = record { next = next; schema = unwrap_or own h.schema }; lists = k; touched = b }

module _ (t : Slots) (h : Heading) (l k : StoreLists) (next : ℕ) (own : Option Schema) (b : Bool) (begins : next ≡ h.next) (none : own ≡ None) (lists : k ≡ lists_then l) (untouched : b ≡ false) where
  -- it has none, so both its sides are one
  pub parted_fresh_store : parted_store t h next own k b ≡ fresh_store t h (lists_then l)
  parted_fresh_store = λ i. record { slots = t; committed = h; session = record { next = begins i; schema = unwrap_or (none i) h.schema }; lists = lists i; touched = untouched i }

  pub parted_fresh : t.objects ≡ [] → t.system ≡ [] → AreWritten (lists_then l) → IsFresh (parted_store t h next own k b)
  parted_fresh objects system written = subst IsFresh (sym parted_fresh_store) (record { untouched = refl; objects = objects; system = system; heading = refl; lists = then_marked l written })

-- the store with these slots, of which both sides are the committed one
module _ (v : FiledStore) (t : Slots) (d e : Disk) (header : t.header ≡ (v.slots).header) (same : committed t e ≡ committed v.slots d) where
  pub rolled_agrees : Agrees v d → slots.Agrees t e → Agrees (fresh_store t v.committed (lists_then v.lists)) e
  rolled_agrees agrees own = record {
    slots = own;
    outline = subst (λ h. IsOutline h.first (committed t e) (v.committed).next (v.committed).schema (lists_then v.lists)) (sym header)
        (subst (λ m. IsOutline ((v.slots).header).first m (v.committed).next (v.committed).schema (lists_then v.lists)) (sym same) agrees.outline);
  }

  pub rolled_shows : t.objects ≡ [] → t.system ≡ [] → (c s : Store) → Shows v d c s → Shows (fresh_store t v.committed (lists_then v.lists)) e c c
  rolled_shows objects system c s shows =
      let is : IsStoreOf (committed t e) v.committed (lists_then v.lists) c = subst (λ m. IsStoreOf m v.committed (lists_then v.lists) c) (sym same) shows.committed in
      record {
        spelled = subst (λ h. Spells h.first (committed t e) c) (sym header) (subst (λ m. Spells ((v.slots).header).first m c) (sym same) shows.spelled);
        committed = is;
        session = subst (λ m. IsStoreOf m v.committed (lists_then v.lists) c) (sym (same_slots t e objects system)) is;
      }

pub same_committed : (s t : Slots) (d : Disk) → t.header ≡ s.header → t.pages ≡ s.pages → committed t d ≡ committed s d
same_committed s t d header pages = λ i. map_of (header i) (pages i) d.bytes
