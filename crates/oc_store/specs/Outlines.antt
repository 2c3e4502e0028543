-- What the system's slots spell of a store: its next number, its schema and its lists. Which slot is told where they spell none.
use Rattle.std.specs.Prelude.{◌≡◌, ◌⊎◌, ◌<◌, ℕ, Bool, is_some, List, [], ◌∷◌, ◌++◌, map, None, IsSomeAnd, IsTrue}
use Rattle.std.specs.List.{list_any}
use Rattle.oc_model.specs.declared.value.Base.{Base}
use Rattle.oc_model.specs.Lists.{IsOneOf}
use Rattle.oc_model.specs.Schemas.{Schema, empty_schema}
use Rattle.oc_chunks.specs.Ascending.{Each}
use Rattle.oc_chunks.specs.Chunks.{Chunk, joined, numbers}
use Rattle.oc_index.specs.declared.items.ExtentItem.{ExtentItem}
use Rattle.oc_index.specs.declared.items.IndexItem.{IndexItem}
use Rattle.oc_index.specs.Fields.{FieldList}
use Rattle.oc_index.specs.Indexed.{StoreLists}
use Rattle.oc_index.specs.Items.{extent_cmp, index_cmp}
use Rattle.oc_index.specs.Ranges.{is_numbered}
use Rattle.oc_catalog.specs.declared.catalog.Catalog.{Catalog}
use Rattle.oc_catalog.specs.declared.catalog.ListEntry.{ListEntry}
use Rattle.oc_catalog.specs.Catalogs.{SpellsCatalog}
use Rattle.oc_slots.specs.Maps.{SlotMap}
use Rattle.oc_store.specs.Lists.{system_slot, SpellsExtents, SpellsIndex, AreNext, IsDamagedAt, IsSoundList}
use Rattle.oc_lists.specs.Keeping.{extent_suits}
use Rattle.oc_lists.specs.Lists.{bases_in}
use Rattle.oc_store.specs.Listed.{index_suits}
use Rattle.oc_store.specs.Stands.{object_slot}

-- ---- the lists in memory

-- the index of a field as a catalog names it
abbrev pub named : ℕ × FieldList → ListEntry
named f = record { id = f.0; segments = numbers (f.1).chunks }

-- the lists as a catalog names them
abbrev pub named_lists : StoreLists → List ListEntry
named_lists l = record { id = 0; segments = numbers (l.extents).chunks } ∷ map named l.fields

-- ---- what slots spell

-- the index of the field is sound, and is of a kind of an indexed field
pub record IsIndex (m : SlotMap) (s : Schema) (f : ℕ × FieldList) : Type 0 where
  pub base : IsOneOf (f.0, (f.1).base) (bases_in s)
  pub sound : AreNext (SpellsIndex (f.1).base) m index_cmp (index_suits s) [] (f.1).chunks

-- nothing was ever committed: there is no catalog, and the store has no class and no list
pub record IsBare (first : ℕ) (m : SlotMap) (next : ℕ) (s : Schema) (l : StoreLists) : Type 0 where
  pub none : m (system_slot 1) ≡ None
  pub begins : next ≡ first
  pub schema : s ≡ empty_schema
  pub extents : (l.extents).chunks ≡ []
  pub fields : l.fields ≡ []

-- The catalog has this next number and this schema, and names these lists, which are sound. There may be none, where nothing was ever committed.
pub record IsOutline (first : ℕ) (m : SlotMap) (next : ℕ) (s : Schema) (l : StoreLists) : Type 0 where
  pub catalog : IsSomeAnd (m (system_slot 1)) (SpellsCatalog (record { next = next; schema = s; lists = named_lists l })) ⊎ IsBare first m next s l
  pub extents : AreNext SpellsExtents m extent_cmp (extent_suits s) [] (l.extents).chunks
  pub fields : Each (IsIndex m s) l.fields

-- the extents have just the objects that are there
abbrev pub AreListed : (ℕ → Bool) → List ExtentItem → Type 0
AreListed there extents = (n : ℕ) → there n ≡ list_any (is_numbered n) extents

-- each object that is there has a number below this one
abbrev pub AreBelow : (ℕ → Bool) → ℕ → Type 0
AreBelow there next = (n : ℕ) → IsTrue (there n) → n < next

-- the object has a slot
abbrev pub has_slot : SlotMap → ℕ → Bool
has_slot m n = is_some (m (object_slot n))

-- the objects that have a slot are just those of the extents, and their numbers are below the next one
pub record HasJust (there : ℕ → Bool) (extents : List ExtentItem) (next : ℕ) : Type 0 where
  pub listed : AreListed there extents
  pub below : AreBelow there next

-- ---- what is told as damaged

-- the list is that of all objects, or that of an indexed field, and sound
abbrev pub IsSoundIn : SlotMap → Schema → ListEntry → Type 0
IsSoundIn m s list =
    ((list.id ≡ 0) × ((chunks : List (Chunk ExtentItem)) × IsSoundList SpellsExtents m extent_cmp (extent_suits s) list.segments chunks))
    ⊎ ((b : Base) × IsOneOf (list.id, b) (bases_in s) × ((chunks : List (Chunk IndexItem)) × IsSoundList (SpellsIndex b) m index_cmp (index_suits s) list.segments chunks))

-- this segment is the first of the list that isn't sound
abbrev pub IsDamagedIn : SlotMap → Schema → ListEntry → ℕ → Type 0
IsDamagedIn m s list n =
    ((list.id ≡ 0) × IsDamagedAt SpellsExtents m extent_cmp (extent_suits s) list.segments n)
    ⊎ ((b : Base) × IsOneOf (list.id, b) (bases_in s) × IsDamagedAt (SpellsIndex b) m index_cmp (index_suits s) list.segments n)

-- this segment is the first of all lists that isn't sound
pub record IsDamagedAmong (m : SlotMap) (s : Schema) (lists : List ListEntry) (n : ℕ) : Type 0 where
  pub before : List ListEntry
  pub list : ListEntry
  pub behind : List ListEntry
  pub split : lists ≡ before ++ list ∷ behind
  pub sound : Each (IsSoundIn m s) before
  pub damaged : IsDamagedIn m s list n

-- The catalog's slot spells no catalog.
abbrev pub HasNoCatalog : SlotMap → Type 0
HasNoCatalog m = IsSomeAnd (m (system_slot 1)) (λ b. (c : Catalog) → SpellsCatalog c b → ⊥)

-- The catalog names a segment that isn't sound, and this is the first.
pub record HasDamagedSegment (m : SlotMap) (n : ℕ) : Type 0 where
  pub catalog : Catalog
  pub spelled : IsSomeAnd (m (system_slot 1)) (SpellsCatalog catalog)
  pub segment : IsDamagedAmong m (catalog.schema) (catalog.lists) n

-- All that the catalog names is sound, and the objects that have a slot aren't just those of the extents, or one has a number that isn't below the next one.
pub record HasOthers (m : SlotMap) : Type 0 where
  pub first : ℕ
  pub next : ℕ
  pub schema : Schema
  pub lists : StoreLists
  pub outline : IsOutline first m next schema lists
  pub others : HasJust (has_slot m) (joined (lists.extents).chunks) next → ⊥

-- The system's slot of this number is what is damaged first.
abbrev pub IsDamaged : SlotMap → ℕ → Type 0
IsDamaged m n = ((n ≡ 1) × HasNoCatalog m) ⊎ (HasDamagedSegment m n ⊎ ((n ≡ 1) × HasOthers m))
