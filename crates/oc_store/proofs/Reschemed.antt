-- The store once its session has another schema.
use Rattle.std.proofs.Common.{◌≡◌, ap, sym, refl, subst, ℕ, Bool, true, nat_le, is_some}
use Rattle.oc_host.specs.Disk.{Disk}
use Rattle.oc_model.specs.Schemas.{Schema}
use Rattle.oc_model.specs.StoreRules.{KeepsStore}
use Rattle.oc_model.specs.Stores.{Store}
use Rattle.oc_chunks.specs.Chunks.{joined}
use Rattle.oc_index.specs.Indexed.{StoreLists}
use Rattle.oc_slots.specs.Cached.{Cached}
use Rattle.oc_slots.specs.Stores.{committed, committed_place, session_place, Slots}
use Rattle.oc_slots.specs.Stores as slots
use Rattle.oc_lists.specs.Following.{MayFollow}
use Rattle.oc_lists.specs.Keeping.{AreKept, AreListsOf, AreNoted, AreNumbered, Noted}
use Rattle.oc_lists.specs.Lists.{lists_then, HasLists}
use Rattle.oc_store.specs.Filed.{Agrees, FiledStore, IsFiled, IsStoreOf, Shows}
use Rattle.oc_store.specs.Outlines.{HasJust, IsOutline}
use Rattle.oc_store.specs.Reindexing.{with_schema}
use Rattle.oc_store.specs.Sides.{AreWritten, Heading, IsSide}
use Rattle.oc_store.specs.Stands.{object_slot}
use Rattle.oc_store.proofs.ChangedStore.{same_then}
use Rattle.oc_store.proofs.Fetched.{filed_cached, kept_agrees, kept_shows}

pub keeps_under : (new : Schema) (s : Store) → MayFollow s.schema new → KeepsStore s → KeepsStore (with_schema new s)
keeps_under new s may keeps = record {
  schema = may.rules;
  some_next = keeps.some_next;
  small_next = keeps.small_next;
  by_number = keeps.by_number;
  from_one = keeps.from_one;
  below_next = keeps.below_next;
  suit = λ n r found. may.suits r (keeps.suit n r found);
}

module _ (l m : StoreLists) (extents : m.extents ≡ l.extents) (marked : m.marked ≡ l.marked) where
  pub then_same : lists_then m ≡ lists_then l
  then_same = same_then l m (ap (λ e. e.marked) extents) marked

  pub schema_filed : (s : Slots) (kept : Cached) (then now : Heading) (classes : Noted) (new : Schema) → IsFiled s then now l classes
      → AreListsOf new m → (AreKept l → AreKept m) → ((has_slot : ℕ → Bool) → AreNumbered has_slot l → AreNumbered has_slot m)
      → IsFiled (record s { cached = kept }) then (record { next = now.next; schema = new }) m classes
  schema_filed s kept then now classes new filed lists stays numbers =
      let now_at = filed.session in
      filed_cached s then (record { next = now.next; schema = new }) m classes kept (record {
        committed = subst (IsSide (committed_place s) then) (sym then_same) filed.committed;
        session = record {
          next = now_at.next;
          just = subst (λ e. HasJust (λ n. is_some (session_place s (object_slot n))) (joined e.chunks) now.next) (sym extents) now_at.just;
          lists = lists;
          numbered = numbers _ now_at.numbered;
          small = (numbers (λ n. nat_le n 2147483646) (record { from_2 = now_at.numbered.from_2; once = now_at.numbered.once; there = now_at.small })).there;
        };
        later = filed.later;
        system = filed.system;
        written = subst AreWritten (sym then_same) filed.written;
        kept = stays filed.kept;
        noted = subst (λ e. AreNoted classes (joined e.chunks) (joined e.marked)) (sym extents) filed.noted;
      })

module _ (v : FiledStore) (kept : Cached) (d e : Disk) (same : e.bytes ≡ d.bytes) (m : StoreLists) (extents : m.extents ≡ (v.lists).extents) (marked : m.marked ≡ (v.lists).marked) (new : Schema) where
  abbrev pub reschemed : FiledStore
  reschemed = record { slots = record (v.slots) { cached = kept }; committed = v.committed; session = record { next = (v.session).next; schema = new }; lists = m; touched = true }

  pub schema_agrees : Agrees v d → slots.Agrees (record (v.slots) { cached = kept }) e → Agrees reschemed e
  schema_agrees agrees own =
      let a = kept_agrees v kept d e same agrees own in
      record { slots = a.slots; outline = subst (IsOutline ((v.slots).header).first (committed (record (v.slots) { cached = kept }) e) (v.committed).next (v.committed).schema) (sym (then_same v.lists m extents marked)) a.outline }

  pub schema_shows : MayFollow (v.session).schema new → (c s : Store) → Shows v d c s → HasLists m (with_schema new s) → Shows reschemed e c (with_schema new s)
  schema_shows may c s shows lists =
      let a = kept_shows v kept d e same c s shows in
      let now = a.session in
      record {
        spelled = a.spelled;
        committed = subst (λ k. IsStoreOf (committed (record (v.slots) { cached = kept }) e) v.committed k c) (sym (then_same v.lists m extents marked)) a.committed;
        session = record {
          keeps = keeps_under new s (subst (λ x. MayFollow x new) now.heading.schema may) now.keeps;
          objects = now.objects;
          heading = record { next = now.heading.next; schema = refl };
          lists = lists;
        };
      }
