-- The store that a map of slots spells, and the one that a file stands for.
use Rattle.std.specs.Prelude.{◌≡◌, ◌⊎◌, ℕ, List, Option, Some, None, IsSomeAnd}
use Rattle.oc_model.specs.declared.value.Rec.{Rec}
use Rattle.oc_model.specs.Maps.{at}
use Rattle.oc_model.specs.Stores.{Store, empty_store}
use Rattle.oc_model.specs.StoreRules.{KeepsStore}
use Rattle.oc_layout.specs.declared.cells.Space.TheVariants.{Objects}
use Rattle.oc_chunks.specs.Ascending.{Each}
use Rattle.oc_marshal.specs.Records.{SpellsRecord}
use Rattle.oc_catalog.specs.declared.catalog.ListEntry.{ListEntry}
use Rattle.oc_catalog.specs.Catalogs.{SpellsCatalog}
use Rattle.oc_slots.specs.declared.slot.SlotId.{SlotId}
use Rattle.oc_slots.specs.Maps.{SlotMap}
use Rattle.oc_slots.specs.Forms.{Gives}
use Rattle.oc_store.specs.Lists.{system_slot, IsListOf}

-- the slot of the object of this number
abbrev pub object_slot : ℕ → SlotId
object_slot n = record { space = Objects; number = n }

-- the bytes spell the record, and there are none where there is no record
abbrev pub SpellsObject : Option (List ℕ) → Option Rec → Type 0
SpellsObject None None = Unit {0}
SpellsObject None (Some r) = ⊥
SpellsObject (Some b) None = ⊥
SpellsObject (Some b) (Some r) = SpellsRecord r b

-- There is a catalog, which has the store's next number and its schema, and names the store's lists.
pub record HasCatalog (m : SlotMap) (s : Store) : Type 0 where
  pub lists : List ListEntry
  pub spelled : IsSomeAnd (m (system_slot 1)) (SpellsCatalog (record { next = s.next; schema = s.schema; lists = lists }))
  pub each : Each (IsListOf m s) lists

-- The map spells the store: each object's slot spells its record, and no other object has a slot. There is a catalog, or none where nothing was
-- ever committed: then the store is the empty one, whose first object gets this number.
pub record Spells (first : ℕ) (m : SlotMap) (s : Store) : Type 0 where
  pub keeps : KeepsStore s
  pub objects : (n : ℕ) → SpellsObject (m (object_slot n)) (at s.records n)
  pub catalog : HasCatalog m s ⊎ ((m (system_slot 1) ≡ None) × (s ≡ empty_store first))

-- The file gives a map that spells the store, where this number is that of a first object.
pub record StandsFrom (first : ℕ) (image : List ℕ) (s : Store) : Type 0 where
  pub slots : SlotMap
  pub gives : Gives image slots
  pub spells : Spells first slots s

-- The file stands for the store: it gives a map that spells it, with the first number of its header.
pub record Stands (image : List ℕ) (s : Store) : Type 0 where
  pub first : ℕ
  pub from : StandsFrom first image s
  pub is_first : ((from.gives).header).first ≡ first
