-- What is read of an object, and the stores.
use Rattle.std.proofs.Common.{◌≡◌, ◌∙◌, ap, sym, refl, subst, ℕ, nat_eq, List, Option, Some, None, option_map}
use Rattle.std.specs.Prelude.{is_some, IfSome, IsSomeAnd}
use Rattle.oc_host.specs.Disk.{Disk}
use Rattle.oc_model.specs.declared.value.Rec.{Rec}
use Rattle.oc_model.specs.Maps.{at}
use Rattle.oc_model.specs.Schemas.{Schema}
use Rattle.oc_model.specs.Stores.{Store, class_of}
use Rattle.oc_model.specs.StoreRules.{KeepsStore, Suits}
use Rattle.oc_marshal.specs.Records.{SpellsRecord}
use Rattle.oc_chunks.specs.Chunks.{joined}
use Rattle.oc_index.specs.Indexed.{StoreLists}
use Rattle.oc_index.specs.Ranges.{is_numbered}
use Rattle.oc_slots.specs.declared.slot.Side.{Side}
use Rattle.oc_slots.specs.declared.slot.Side.TheVariants.{Committed, Session}
use Rattle.oc_slots.specs.Cached.{Cached}
use Rattle.oc_layout.specs.Layout.{unit_of}
use Rattle.oc_pages.specs.Pages.{pointer_of}
use Rattle.oc_slots.specs.Held.{map_of}
use Rattle.oc_slots.specs.Maps.{content, SlotMap}
use Rattle.oc_slots.specs.Stores as slots
use Rattle.oc_store.specs.Outlines.{IsOutline}
use Rattle.oc_slots.specs.Stores.{Slots, changes_in, committed, committed_place, map_on, place_on, session, session_place}
use Rattle.oc_lists.specs.Keeping.{class_noted, AreNoted, Noted}
use Rattle.oc_store.specs.Sides.{Heading, IsSide}
use Rattle.oc_layout.specs.declared.cells.Space.{Space}
use Rattle.oc_layout.specs.declared.cells.Space.TheVariants.{Objects, System}
use Rattle.std.specs.Map.{lookup}
use Rattle.std.specs.Option.{option_map_or}
use Rattle.oc_lists.specs.Lists.{class_in, lists_then}
use Rattle.oc_store.specs.Filed.{class_on, heading_on, side_of, Agrees, FiledStore, IsFiled, IsRead, IsStoreOf, Shows}
use Rattle.oc_store.specs.Stands.{object_slot, Spells, SpellsObject}
use Rattle.oc_store.proofs.Classes.{class_is}
use Rattle.oc_store.proofs.Fresh.{found_some}
use Rattle.oc_store.proofs.OneStore.{one_object}

-- the slot of the object spells the record of the store of its side
pub spelled_on : (v : FiledStore) (d : Disk) (c s : Store) → Shows v d c s → (side : Side) (n : ℕ) → SpellsObject (map_on side v.slots d (object_slot n)) (at (side_of side c s).records n)
spelled_on v d c s shows Committed n = (shows.committed).objects n
spelled_on v d c s shows Session n = (shows.session).objects n

-- what was read is what the slot spells
pub read_spells : (schema : Schema) (class : Option ℕ) (o : Option (List ℕ)) (found : Option Rec) → IsRead schema class o found → SpellsObject o found
read_spells schema class None None h = tt
read_spells schema class (Some b) None h = cc
read_spells schema class None (Some r) h = absurd h.0
read_spells schema class (Some b) (Some r) h = h.0

-- so it is the record of the store
pub read_record : (v : FiledStore) (d : Disk) (c s : Store) → Shows v d c s → (side : Side) (n : ℕ) (schema : Schema) (class : Option ℕ) (found : Option Rec) → IsRead schema class (map_on side v.slots d (object_slot n)) found → found ≡ at (side_of side c s).records n
read_record v d c s shows side n schema class found h = one_object (map_on side v.slots d (object_slot n)) found _ (read_spells schema class _ found h) (spelled_on v d c s shows side n)

pub read_as : (a b : Schema) → a ≡ b → (x y : Option ℕ) → x ≡ y → (o p : Option (List ℕ)) → o ≡ p → (found : Option Rec) → IsRead a x o found → IsRead b y p found
read_as a b schema x y class o p slot found h = subst (λ q. IsRead b y q found) slot (subst (λ k. IsRead b k o found) class (subst (λ t. IsRead t x o found) schema h))

-- the schema of a side
pub schema_of_side : (side : Side) (then now : Heading) → side_of side then.schema now.schema ≡ (side_of side then now).schema
schema_of_side Committed then now = refl
schema_of_side Session then now = refl

-- each side has a slot for an object where it has a class of it
pub has_class : (s : Slots) (then now : Heading) (l : StoreLists) (classes : Noted) → IsFiled s then now l classes → (side : Side) (n : ℕ) (v : FiledStore) → v.slots ≡ s → v.lists ≡ l → is_some (place_on side s (object_slot n)) ≡ is_some (class_on side v n)
has_class s then now l classes filed Committed n v a b = (filed.committed).just.listed n ∙ sym (found_some (is_numbered n) (joined (l.extents).marked)) ∙ (λ i. is_some (class_in (joined ((sym b i).extents).marked) n))
has_class s then now l classes filed Session n v a b = (filed.session).just.listed n ∙ sym (found_some (is_numbered n) (joined (l.extents).chunks)) ∙ (λ i. is_some (class_in (joined ((sym b i).extents).chunks) n))

-- ---- other slots are kept in memory

same_changes : (s t : Slots) → t.objects ≡ s.objects → t.system ≡ s.system → (space : Space) → changes_in t space ≡ changes_in s space
same_changes s t objects system Objects = objects
same_changes s t objects system System = system

-- the session has each slot where it had it, where the pages and what changed are the same
pub places_of : (s t : Slots) → t.pages ≡ s.pages → t.objects ≡ s.objects → t.system ≡ s.system → session_place t ≡ session_place s
places_of s t pages objects system = λ i id. option_map_or (λ o. o) (lookup (nat_eq id.number) (same_changes s t objects system id.space i)) (pointer_of (pages i) id.space id.number)

pub places_kept : (s : Slots) (kept : Cached) → session_place s ≡ session_place (record s { cached = kept })
places_kept s kept = sym (places_of s (record s { cached = kept }) refl refl refl)

pub filed_cached : (s : Slots) (then now : Heading) (l : StoreLists) (classes : Noted) (kept : Cached) → IsFiled s then now l classes → IsFiled (record s { cached = kept }) then now l classes
filed_cached s then now l classes kept filed = record {
  committed = filed.committed;
  session = subst (λ place. IsSide place now l) (places_kept s kept) filed.session;
  later = filed.later;
  system = filed.system;
  written = filed.written;
  kept = filed.kept;
  noted = filed.noted;
}

-- what the store has is read
some_suits : (t : Store) → KeepsStore t → (n : ℕ) (q : Option Rec) → at t.records n ≡ q → (o : Option (List ℕ)) → SpellsObject o q → (schema : Schema) → schema ≡ t.schema → (class : Option ℕ) → class ≡ class_of t n → IsRead schema class o q
some_suits t keeps n None e None h schema same class is = refl
some_suits t keeps n None e (Some b) h schema same class is = absurd h
some_suits t keeps n (Some r) e None h schema same class is = absurd h
some_suits t keeps n (Some r) e (Some b) h schema same class is = (h, subst (λ x. Suits x r) (sym same) (keeps.suit n r e), is ∙ ap (option_map (λ (x : Rec). x.class)) e)

store_read : (m : SlotMap) (h : Heading) (l : StoreLists) (t : Store) → IsStoreOf m h l t → (n : ℕ) → IsRead h.schema (class_in (joined (l.extents).chunks) n) (m (object_slot n)) (at t.records n)
store_read m h l t is n = some_suits t is.keeps n _ refl _ (is.objects n) _ (is.heading).schema _ (class_is t (joined (l.extents).chunks) n (is.lists).extents)

pub shown_read : (v : FiledStore) (d : Disk) (c s : Store) → Shows v d c s → (side : Side) (n : ℕ) → IsRead (heading_on side v).schema (class_on side v n) (map_on side v.slots d (object_slot n)) (at (side_of side c s).records n)
shown_read v d c s shows Committed n = store_read (committed v.slots d) v.committed (lists_then v.lists) c shows.committed n
shown_read v d c s shows Session n = store_read (session v.slots d) v.session v.lists s shows.session n

-- ---- the class of an object

pub class_shown : (v : FiledStore) (d : Disk) (c s : Store) → Shows v d c s → (side : Side) (n : ℕ) → class_on side v n ≡ class_of (side_of side c s) n
class_shown v d c s shows Committed n = class_is c (joined ((lists_then v.lists).extents).chunks) n ((shows.committed).lists).extents
class_shown v d c s shows Session n = class_is s (joined ((v.lists).extents).chunks) n ((shows.session).lists).extents

-- the committed side has the object in the class that was noted
pub class_then : (classes : Noted) (l : StoreLists) (n : ℕ) → AreNoted classes (joined (l.extents).chunks) (joined (l.extents).marked) → class_noted classes (class_in (joined (l.extents).chunks) n) n ≡ class_in (joined (l.extents).marked) n
class_then classes l n noted = sym (noted n)

pub slots_session : (s : Slots) (kept : Cached) (d e : Disk) → e.bytes ≡ d.bytes → session (record s { cached = kept }) e ≡ session s d
slots_session s kept d e same = λ i id. content (unit_of s.header) (same i) (sym (places_kept s kept) i id)

-- ---- the stores, once others are kept in memory and the file reads the same

module _ (v : FiledStore) (kept : Cached) (d e : Disk) (same : e.bytes ≡ d.bytes) where
  abbrev pub with_kept : FiledStore
  with_kept = record v { slots = record (v.slots) { cached = kept } }

  pub committed_same : committed (with_kept).slots e ≡ committed v.slots d
  committed_same = λ i. map_of (v.slots).header (v.slots).pages (same i)

  pub session_same : session (with_kept).slots e ≡ session v.slots d
  session_same = slots_session v.slots kept d e same

  pub kept_shows : (c s : Store) → Shows v d c s → Shows with_kept e c s
  kept_shows c s shows = record {
    spelled = subst (λ m. Spells ((v.slots).header).first m c) (sym committed_same) shows.spelled;
    committed = subst (λ m. IsStoreOf m v.committed (lists_then v.lists) c) (sym committed_same) shows.committed;
    session = subst (λ m. IsStoreOf m v.session v.lists s) (sym session_same) shows.session;
  }

  pub kept_agrees : Agrees v d → slots.Agrees (with_kept).slots e → Agrees with_kept e
  kept_agrees agrees own = record { slots = own; outline = subst (λ m. IsOutline ((v.slots).header).first m (v.committed).next (v.committed).schema (lists_then v.lists)) (sym committed_same) agrees.outline }

-- what was read is of the object's class
pub class_read : (found : Option Rec) (class : Option ℕ) → IfSome found (λ r. class ≡ Some r.class) → is_some found ≡ is_some class → option_map (λ (r : Rec). r.class) found ≡ class
class_read None None h e = refl
class_read None (Some k) h e = cc
class_read (Some r) class h e = sym h
