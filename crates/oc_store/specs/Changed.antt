-- What a change of objects makes of a store in a file.
use Rattle.std.specs.Prelude.{◌≡◌, ℕ, List, [], ◌∷◌, map, flat_map, sum_by, Option, None, Some, option_map}
use Rattle.oc_model.specs.declared.value.Rec.{Rec}
use Rattle.oc_model.specs.Spelling.{record_bytes}
use Rattle.oc_model.specs.Stores.{record_len}
use Rattle.oc_room.specs.Rooms as rooms
use Rattle.oc_slots.specs.declared.slot.Side.TheVariants.{Session}
use Rattle.oc_slots.specs.declared.slot.SlotChange.{SlotChange}
use Rattle.oc_slots.specs.Stores.{length_on, Slots}
use Rattle.oc_lists.specs.declared.record.RecChange.{RecChange}
use Rattle.oc_store.specs.Filed.{FiledStore}
use Rattle.oc_store.specs.Stands.{object_slot}

-- the object's slot has the bytes of its new record, or is gone with it
abbrev pub slot_change : RecChange → SlotChange
slot_change c = record { id = object_slot c.number; bytes = option_map record_bytes c.rec }

-- the length of the record, if there is one, as a list
abbrev pub len_list : Option Rec → List ℕ
len_list None = []
len_list (Some r) = record_len r ∷ []

-- the lengths of the new records, in the order of the changes
abbrev pub record_lens : List RecChange → List ℕ
record_lens changes = flat_map (λ c. len_list c.rec) changes

-- how long the records are that the session has of these objects
abbrev pub old_len : Slots → List RecChange → ℕ
old_len s changes = sum_by (λ c. length_on Session s (object_slot c.number)) changes

-- each record is of the class that its object has, and there is none where the object has none
abbrev pub AreOfClasses : (ℕ → Option ℕ) → List RecChange → List (Option Rec) → Type 0
AreOfClasses class_of changes olds = map (λ o. option_map (λ r. r.class) o) olds ≡ map (λ c. class_of c.number) changes

-- the same slots in the same places, and the same room
pub record AreSameSlots (old new : Slots) : Type 0 where
  pub header : new.header ≡ old.header
  pub pages : new.pages ≡ old.pages
  pub objects : new.objects ≡ old.objects
  pub system : new.system ≡ old.system
  pub room : rooms.IsSame old.room new.room
  pub len : new.len ≡ old.len

-- The store is as it was, but for the slots that are kept in memory.
pub record IsSameStore (old new : FiledStore) : Type 0 where
  pub slots : AreSameSlots old.slots new.slots
  pub committed : new.committed ≡ old.committed
  pub session : new.session ≡ old.session
  pub lists : new.lists ≡ old.lists
  pub touched : new.touched ≡ old.touched
