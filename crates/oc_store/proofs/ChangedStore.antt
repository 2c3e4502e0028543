-- The store once objects have changed.
use Rattle.std.proofs.Common.{◌≡◌, ◌∙◌, ap, sym, refl, subst, ℕ, ◌<◌, ◌≤◌, Bool, true, false, cond, ◌==◌, List, [], ◌∷◌, map, arith, suc}
use Rattle.std.specs.Prelude.{is_some, All, IfSome, IsTrue}
use Rattle.std.proofs.lemmas.Bool.{eqb-true}
use Rattle.std.proofs.lemmas.List.Elements.{All-tail}
use Rattle.oc_host.specs.Disk.{Disk, LeavesOnly, Looks}
use Rattle.oc_host.proofs.Moments.{started, then_runs}
use Rattle.oc_layout.specs.declared.cells.Header.{Header}
use Rattle.oc_layout.specs.Layout.{unit_of}
use Rattle.oc_pages.specs.declared.page.Page.{Page}
use Rattle.oc_slots.specs.Forms.{GivesFrom}
use Rattle.oc_slots.specs.Held.{map_of}
use Rattle.oc_slots.specs.Writing.{Before}
use Rattle.oc_model.specs.Maps.{at}
use Rattle.oc_model.specs.SchemaRules.{keeps_rules}
use Rattle.oc_model.specs.StoreRules.{KeepsStore}
use Rattle.oc_model.specs.Stores.{Store}
use Rattle.oc_chunks.specs.Chunks.{joined}
use Rattle.oc_index.specs.Indexed.{StoreLists}
use Rattle.oc_index.specs.Ranges.{is_numbered}
use Rattle.oc_slots.specs.declared.slot.SlotId.{SlotId}
use Rattle.oc_slots.specs.Maps.{changed, content, Same, SlotMap}
use Rattle.oc_slots.specs.Maps.{has_after}
use Rattle.oc_slots.specs.Stores.{committed, committed_place, session, session_place, IsUnchanged, Slots}
use Rattle.oc_slots.specs.Stores as slots
use Rattle.oc_lists.specs.declared.record.RecChange.{RecChange}
use Rattle.oc_lists.specs.Changing.{records_changed, store_changed, there_after, AreRecChanges, IsStorable}
use Rattle.oc_lists.specs.Keeping.{list_numbers, AreKept, AreListsOf, AreNoted, AreNumbered, Noted}
use Rattle.oc_lists.specs.Lists.{class_in, lists_then, HasLists}
use Rattle.oc_store.specs.Changed.{slot_change}
use Rattle.oc_store.specs.Filed.{Agrees, FiledStore, IsFiled, IsStoreOf, IsUntouched, Shows}
use Rattle.oc_store.specs.Last.{are_small}
use Rattle.oc_store.specs.Lists.{system_slot}
use Rattle.oc_store.specs.Sides.{AreWritten, Heading, IsSide}
use Rattle.oc_store.specs.Outlines.{IsOutline}
use Rattle.oc_store.specs.Stands.{object_slot, Spells, SpellsObject, Stands}
use Rattle.oc_store.specs.Stops.{StillStands}
use Rattle.oc_lists.proofs.Changed.{rec_after}
use Rattle.oc_store.proofs.ChangedSlots.{object_after, spells_after, system_after}
use Rattle.oc_store.proofs.Fetched.{filed_cached, kept_agrees, kept_shows, places_of}
use Rattle.oc_store.proofs.Fresh.{found_some, still_fresh, then_looks}
use Rattle.oc_store.proofs.OneStore.{same_maps}
use Rattle.oc_store.proofs.Standing.{gives_stands}

-- the same lists at the mark
pub same_then : (l k : StoreLists) → (k.extents).marked ≡ (l.extents).marked → k.marked ≡ l.marked → lists_then k ≡ lists_then l
same_then l k extents fields = λ i. record { extents = record { chunks = extents i; marked = extents i }; fields = fields i; marked = fields i }

-- an object that is there after the changes has a number below the next one
below_after : (next n : ℕ) (cs : List RecChange) → All (λ (c : RecChange). (1 ≤ c.number) × (c.number < next)) cs → (b : Bool) → (b ≡ true → n < next) → there_after cs n b ≡ true → n < next
below_after next n [] numbers b before h = before h
below_after next n (c ∷ cs) numbers b before h =
    (elim (c.number == n) as (λ t. (c.number == n) ≡ t → cond t (is_some c.rec) (there_after cs n b) ≡ true → n < next) [
      | true ↦ λ same _. let number = numbers 0 c (omega arith) in let e = eqb-true c.number n same in omega (arith, number.1, e)
      | false ↦ λ other more. below_after next n cs (All-tail (λ (x : RecChange). (1 ≤ x.number) × (x.number < next)) c cs numbers) b before more
    ]) refl h

module _ (s t : Slots) (then now : Heading) (l k : StoreLists) (classes noted : Noted) (cs : List RecChange) (next : ℕ)
    (filed : IsFiled s then now l classes) (may : AreRecChanges now.schema (class_in (joined (l.extents).chunks)) now.next next cs)
    (pages : t.pages ≡ s.pages) (system : t.system ≡ s.system) (there : (id : SlotId) → is_some (session_place t id) ≡ has_after (map slot_change cs) id (is_some (session_place s id)))
    (extents : (k.extents).marked ≡ (l.extents).marked) (fields : k.marked ≡ l.marked) where
  object_there : (n : ℕ) → is_some (session_place t (object_slot n)) ≡ there_after cs n (is_some (session_place s (object_slot n)))
  object_there n = there (object_slot n) ∙ object_after cs n (is_some (session_place s (object_slot n)))

  abbrev has_system : Slots → ℕ → Bool
  has_system x n = is_some (session_place x (system_slot n))

  system_there : has_system t ≡ has_system s
  system_there = λ i n. (there (system_slot n) ∙ system_after cs n (is_some (session_place s (system_slot n)))) i

  pub changed_filed : ((n : ℕ) → is_some (class_in (joined (k.extents).chunks) n) ≡ there_after cs n (is_some (class_in (joined (l.extents).chunks) n)))
      → AreListsOf now.schema k → AreKept k → AreNumbered (λ n. is_some (session_place s (system_slot n))) k → IsTrue (are_small (list_numbers k)) → AreNoted noted (joined (k.extents).chunks) (joined (l.extents).marked)
      → IsFiled t then (record { next = next; schema = now.schema }) k noted
  changed_filed listed lists kept numbered small notes =
      let first = (filed.session).next in
      let before = filed.later in
      let grows = may.later in
      record {
        committed = subst (IsSide (committed_place t) then) (sym (same_then l k extents fields)) (subst (λ ps. IsSide (committed_place (record t { pages = ps })) then (lists_then l)) (sym pages) filed.committed);
        session = record {
          next = (omega (arith, first.0, grows), may.small);
          just = record {
            listed = λ n.
                object_there n ∙ ap (there_after cs n) ((filed.session).just.listed n ∙ sym (found_some (is_numbered n) (joined (l.extents).chunks))) ∙ sym (listed n) ∙ found_some (is_numbered n) (joined (k.extents).chunks);
            below = λ n h.
                below_after next n cs may.numbers (is_some (session_place s (object_slot n)))
                (λ was. let low = (filed.session).just.below n was in omega (arith, low, grows))
                (sym (object_there n) ∙ h);
          };
          lists = lists;
          numbered = subst (λ has. AreNumbered has k) (sym system_there) numbered;
          small = small;
        };
        later = omega (arith, before, grows);
        system = system ∙ filed.system;
        written = subst AreWritten (sym (same_then l k extents fields)) filed.written;
        kept = kept;
        noted = subst (λ m. AreNoted noted (joined (k.extents).chunks) (joined m)) (sym extents) notes;
      }

module _ (v : FiledStore) (t : Slots) (d e : Disk) (k : StoreLists) (cs : List RecChange) (next : ℕ)
    (header : t.header ≡ (v.slots).header) (committed_is : Same (committed t e) (committed v.slots d)) (session_is : Same (session t e) (changed (map slot_change cs) (session v.slots d)))
    (extents : (k.extents).marked ≡ ((v.lists).extents).marked) (fields : k.marked ≡ (v.lists).marked) where
  pub changed_shows : (c s : Store) → Shows v d c s → All (λ (x : RecChange). IfSome x.rec (IsStorable (v.session).schema)) cs → IsTrue (keeps_rules (v.session).schema)
      → KeepsStore (store_changed next cs s) → ((n : ℕ) → at (records_changed cs s.records) n ≡ rec_after cs n (at s.records n)) → HasLists k (store_changed next cs s)
      → Shows (record { slots = t; committed = v.committed; session = record { next = next; schema = (v.session).schema }; lists = k; touched = true }) e c (store_changed next cs s)
  changed_shows c s shows storable rules keeps records lists =
      let same : committed t e ≡ committed v.slots d = same_maps _ _ committed_is in
      record {
        spelled = subst (λ h. Spells h.first (committed t e) c) (sym header) (subst (λ m. Spells ((v.slots).header).first m c) (sym same) shows.spelled);
        committed = subst (λ m. IsStoreOf m v.committed (lists_then k) c) (sym same) (subst (λ b. IsStoreOf (committed v.slots d) v.committed b c) (sym (same_then v.lists k extents fields)) shows.committed);
        session = record {
          keeps = keeps;
          objects = λ n.
              subst (λ o. SpellsObject o (at (records_changed cs s.records) n)) (sym (session_is (object_slot n)))
              (subst (SpellsObject (changed (map slot_change cs) (session v.slots d) (object_slot n))) (sym (records n))
              (spells_after (v.session).schema rules cs storable (session v.slots d) n (at s.records n) ((shows.session).objects n)));
          heading = record { next = refl; schema = ((shows.session).heading).schema };
          lists = lists;
        };
      }

-- ---- where nothing changed but the room

module _ (s t : Slots) (same : IsUnchanged s t) where
  pub unchanged_filed : (then now : Heading) (l : StoreLists) (classes : Noted) → IsFiled s then now l classes → IsFiled t then now l classes
  unchanged_filed then now l classes filed = record {
    committed = subst (λ ps. IsSide (committed_place (record t { pages = ps })) then (lists_then l)) (sym same.pages) filed.committed;
    session = subst (λ place. IsSide place now l) (sym (places_of s t same.pages same.objects same.system)) filed.session;
    later = filed.later;
    system = same.system ∙ filed.system;
    written = filed.written;
    kept = filed.kept;
    noted = filed.noted;
  }

  is_roomed : t ≡ record s { room = t.room }
  is_roomed = λ i. record { header = same.header i; pages = same.pages i; objects = same.objects i; system = same.system i; room = t.room; len = same.len i; cached = same.cached i }

  pub unchanged_slots : (d : Disk) → slots.Agrees s d → slots.Agrees t d
  unchanged_slots d a = subst (λ x. slots.Agrees x d) (sym is_roomed) (record { holds = a.holds; len = a.len; fresh = a.fresh; cached = a.cached })

  unchanged_session : (d : Disk) → session t d ≡ session s d
  unchanged_session d = λ i id. content (unit_of (same.header i)) d.bytes (places_of s t same.pages same.objects same.system i id)

  unchanged_committed : (d : Disk) → committed t d ≡ committed s d
  unchanged_committed d = λ i. map_of (same.header i) (same.pages i) d.bytes

  pub unchanged_agrees : (then now : Heading) (l : StoreLists) (b : Bool) (d : Disk) → Agrees (record { slots = s; committed = then; session = now; lists = l; touched = b }) d → Agrees (record { slots = t; committed = then; session = now; lists = l; touched = b }) d
  unchanged_agrees then now l b d a = record {
    slots = unchanged_slots d a.slots;
    outline = subst (λ h. IsOutline h.first (committed t d) then.next then.schema (lists_then l)) (sym same.header) (subst (λ m. IsOutline (s.header).first m then.next then.schema (lists_then l)) (sym (unchanged_committed d)) a.outline);
  }

  pub unchanged_shows : (then now : Heading) (l : StoreLists) (b : Bool) (d : Disk) (c k : Store) → Shows (record { slots = s; committed = then; session = now; lists = l; touched = b }) d c k → Shows (record { slots = t; committed = then; session = now; lists = l; touched = b }) d c k
  unchanged_shows then now l b d c k shows = record {
    spelled = subst (λ h. Spells h.first (committed t d) c) (sym same.header) (subst (λ m. Spells (s.header).first m c) (sym (unchanged_committed d)) shows.spelled);
    committed = subst (λ m. IsStoreOf m then (lists_then l) c) (sym (unchanged_committed d)) shows.committed;
    session = subst (λ m. IsStoreOf m now l k) (sym (unchanged_session d)) shows.session;
  }

-- ---- stops

module _ (h : Header) (pages : List Page) (d e : Disk) (k : Store) (spells : Spells h.first (map_of h pages d.bytes) k) (looks : Looks d e) where
  pub looks_still : LeavesOnly d e (StillStands k d)
  looks_still = then_looks d d e (StillStands k d) (started d (StillStands k d)) looks

  pub before_still : (g : Disk) → LeavesOnly e g (Before h pages e) → LeavesOnly d g (StillStands k d)
  before_still g leaves =
      then_runs d e g (StillStands k d) (Before h pages e) (StillStands k d) looks_still leaves (λ image said h. h)
      (λ image said b. (b.0 ∙ looks.said, gives_stands h.first (map_of h pages e.bytes) k image (subst (λ x. Spells h.first (map_of h pages x) k) (sym looks.bytes) spells) b.1))

-- ---- where others are kept in memory

module _ (v : FiledStore) (t : Slots) (is : t ≡ record (v.slots) { cached = t.cached }) where
  pub read_filed : (classes : Noted) → IsFiled v.slots v.committed v.session v.lists classes → IsFiled t v.committed v.session v.lists classes
  read_filed classes filed = subst (λ s. IsFiled s v.committed v.session v.lists classes) (sym is) (filed_cached v.slots v.committed v.session v.lists classes t.cached filed)

  pub read_untouched : IsUntouched v → IsUntouched (record v { slots = t })
  read_untouched = still_fresh v t (ap (λ (x : Slots). x.objects) is) (ap (λ (x : Slots). x.system) is)

  module _ (d e : Disk) (bytes : e.bytes ≡ d.bytes) where
    pub read_agrees : Agrees v d → slots.Agrees t e → Agrees (record v { slots = t }) e
    read_agrees agrees own = subst (λ s. Agrees (record v { slots = s }) e) (sym is) (kept_agrees v t.cached d e bytes agrees (subst (λ s. slots.Agrees s e) is own))

    pub read_shows : (c s : Store) → Shows v d c s → Shows (record v { slots = t }) e c s
    read_shows c s shows = subst (λ x. Shows (record v { slots = x }) e c s) (sym is) (kept_shows v t.cached d e bytes c s shows)

    pub read_committed : committed t e ≡ committed v.slots d
    read_committed = ap {A = Slots} (λ x. committed x e) is ∙ (λ i. map_of (v.slots).header (v.slots).pages (bytes i))

  pub read_spelled : (d : Disk) (c : Store) → Spells ((v.slots).header).first (committed v.slots d) c → Spells (t.header).first (committed t d) c
  read_spelled d c spelled = subst (λ x. Spells (x.header).first (committed x d) c) (sym is) spelled
