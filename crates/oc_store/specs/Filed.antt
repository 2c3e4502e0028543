-- What contracts see of a store in a file, and the two stores that it is.
use Rattle.std.specs.Prelude.{◌≡◌, ◌≤◌, ℕ, Bool, false, List, [], length, sum_by, Option, None, Some, IsSomeAnd}
use Rattle.std.specs.Option.{option_map_or}
use Rattle.oc_host.specs.Disk.{Disk}
use Rattle.oc_model.specs.declared.value.Rec.{Rec}
use Rattle.oc_model.specs.Maps.{at}
use Rattle.oc_model.specs.Schemas.{Schema}
use Rattle.oc_model.specs.Stores.{Store}
use Rattle.oc_model.specs.StoreRules.{KeepsStore, Suits}
use Rattle.oc_marshal.specs.Records.{SpellsRecord}
use Rattle.oc_chunks.specs.Chunks.{joined}
use Rattle.oc_index.specs.Indexed.{StoreLists}
use Rattle.oc_catalog.specs.declared.catalog.ListEntry.{ListEntry}
use Rattle.oc_slots.specs.declared.slot.Side.{Side}
use Rattle.oc_slots.specs.declared.slot.Side.TheVariants.{Committed, Session}
use Rattle.oc_slots.specs.declared.slot.SlotId.{SlotId}
use Rattle.oc_slots.specs.Maps.{SlotMap}
use Rattle.oc_slots.specs.Stores.{Slots, committed, committed_place, session, session_place}
use Rattle.oc_slots.specs.Stores as slots
use Rattle.oc_lists.specs.Keeping.{AreKept, AreNoted, Noted}
use Rattle.oc_lists.specs.Lists.{class_in, lists_then, HasLists, IsMarked}
use Rattle.oc_store.specs.Lists.{system_slot}
use Rattle.oc_store.specs.Outlines.{IsOutline}
use Rattle.oc_store.specs.Sides.{AreWritten, Heading, IsSide}
use Rattle.oc_store.specs.Stands.{object_slot, Spells, SpellsObject}

-- ---- the parts

-- The slots, the headings of both sides, the lists of the session, as they are and as the last commit left them, and whether the session was changed since it
-- began.
pub record FiledStore : Type 0 where
  pub slots : Slots
  pub committed : Heading
  pub session : Heading
  pub lists : StoreLists
  pub touched : Bool

-- of two things, that of this side
abbrev pub side_of : {X : Type 0} → Side → X → X → X
side_of Committed then now = then
side_of Session then now = now

-- the heading of this side
abbrev pub heading_on : Side → FiledStore → Heading
heading_on side v = side_of side v.committed v.session

-- the lists of this side
abbrev pub lists_on : Side → FiledStore → StoreLists
lists_on side v = side_of side (lists_then v.lists) v.lists

-- the class of an object of this side
abbrev pub class_on : Side → FiledStore → ℕ → Option ℕ
class_on side v n = class_in (joined ((lists_on side v).extents).chunks) n

-- ---- what holds of every one

-- Both sides hold together, each with its places, its heading and its lists. The session's next number is no smaller, and no slot of the system has changed. All
-- that the last commit left is written, and what hasn't changed since is that. The classes that were noted lead to those of the last commit.
pub record IsFiled (s : Slots) (then now : Heading) (l : StoreLists) (classes : Noted) : Type 0 where
  pub committed : IsSide (committed_place s) then (lists_then l)
  pub session : IsSide (session_place s) now l
  pub later : then.next ≤ now.next
  pub system : s.system ≡ []
  pub written : AreWritten (lists_then l)
  pub kept : AreKept l
  pub noted : AreNoted classes (joined (l.extents).chunks) (joined (l.extents).marked)

-- The file is what the store left: its slots are, and those of the committed side's catalog and segments spell the heading and the lists of the last
-- commit.
pub record Agrees (v : FiledStore) (d : Disk) : Type 0 where
  pub slots : slots.Agrees v.slots d
  pub outline : IsOutline ((v.slots).header).first (committed v.slots d) (v.committed).next (v.committed).schema (lists_then v.lists)

-- Nothing has changed since the last commit: both sides are one.
pub record IsFresh (v : FiledStore) : Type 0 where
  pub untouched : v.touched ≡ false
  pub objects : (v.slots).objects ≡ []
  pub system : (v.slots).system ≡ []
  pub heading : v.session ≡ v.committed
  pub lists : IsMarked v.lists

-- a session that was never changed has nothing of its own
abbrev pub IsUntouched : FiledStore → Type 0
IsUntouched v = v.touched ≡ false → IsFresh v

-- ---- the two stores

-- the heading is that of the store
pub record IsHeading (h : Heading) (s : Store) : Type 0 where
  pub next : h.next ≡ s.next
  pub schema : h.schema ≡ s.schema

-- The slots spell the records of the store, whose next number, schema and lists are these.
pub record IsStoreOf (m : SlotMap) (h : Heading) (l : StoreLists) (s : Store) : Type 0 where
  pub keeps : KeepsStore s
  pub objects : (n : ℕ) → SpellsObject (m (object_slot n)) (at s.records n)
  pub heading : IsHeading h s
  pub lists : HasLists l s

-- The store in the file is these two, of which the slots of the committed side spell the first.
pub record Shows (v : FiledStore) (d : Disk) (c s : Store) : Type 0 where
  pub spelled : Spells ((v.slots).header).first (committed v.slots d) c
  pub committed : IsStoreOf (committed v.slots d) v.committed (lists_then v.lists) c
  pub session : IsStoreOf (session v.slots d) v.session v.lists s

-- ---- what is read of an object

-- The bytes are those of the record, which suits the schema and is of this class; there are none where there is no record.
abbrev pub IsRead : Schema → Option ℕ → Option (List ℕ) → Option Rec → Type 0
IsRead s class o None = o ≡ None
IsRead s class o (Some r) = IsSomeAnd o (SpellsRecord r) × Suits s r × (class ≡ Some r.class)

-- ---- how much is read

-- how many bytes the slot has, 0 where there is none
abbrev pub slot_len : SlotMap → SlotId → ℕ
slot_len m id = option_map_or length (m id) 0

-- how many bytes the segments of these lists have
abbrev pub segments_in : SlotMap → List ListEntry → ℕ
segments_in m lists = sum_by (λ (l : ListEntry). sum_by (λ n. slot_len m (system_slot n)) l.segments) lists
