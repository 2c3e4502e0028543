-- The slots that spell the lists of a store.
use Rattle.std.specs.Prelude.{◌≡◌, ℕ, Bool, false, List, [], ◌∷◌, ◌++◌, IsSomeAnd, None, Some, IsTrue}
use Rattle.std.specs.List.{list_all}
use Rattle.std.specs.declared.cmp.Ordering.{Ordering}
use Rattle.oc_model.specs.declared.value.Base.{Base}
use Rattle.oc_model.specs.declared.schema.FieldDef.{FieldDef}
use Rattle.oc_model.specs.Lists.{IsOneOf}
use Rattle.oc_model.specs.Stores.{Store, base_of}
use Rattle.oc_model.specs.Lengths.{indexed_fields}
use Rattle.oc_layout.specs.declared.cells.Space.TheVariants.{System}
use Rattle.oc_chunks.specs.Ascending.{Each, IsAscending}
use Rattle.oc_chunks.specs.Chunks.{Chunk, joined, numbers}
use Rattle.oc_index.specs.declared.items.ExtentItem.{ExtentItem}
use Rattle.oc_index.specs.declared.items.IndexItem.{IndexItem}
use Rattle.oc_index.specs.Items.{extent_cmp, index_cmp}
use Rattle.oc_segments.specs.Items.{extent_fits, extent_spelling, index_stands, index_spelling}
use Rattle.oc_segments.specs.Segments.{SpellsSegment}
use Rattle.oc_catalog.specs.declared.catalog.ListEntry.{ListEntry}
use Rattle.oc_slots.specs.declared.slot.SlotId.{SlotId}
use Rattle.oc_slots.specs.Maps.{SlotMap}
use Rattle.oc_lists.specs.Lists.{entries_of, extents_of}

-- the system's slot of this number: 1 is the catalog's, and the others are those of segments
abbrev pub system_slot : ℕ → SlotId
system_slot n = record { space = System; number = n }

-- the bytes are those of a segment of the extents, with these entries
abbrev pub SpellsExtents : List ExtentItem → List ℕ → Type 0
SpellsExtents = SpellsSegment extent_cmp (extent_fits None) (extent_spelling None)

-- the bytes are those of a segment of the index of a field of this base kind, with these entries
abbrev pub SpellsIndex : Base → List IndexItem → List ℕ → Type 0
SpellsIndex b = SpellsSegment index_cmp (index_stands (Some b)) (index_spelling (Some b))

-- the chunk of a segment of this number, nothing of which has changed since it was written
abbrev pub chunk_kept : {X : Type 0} → ℕ → List X → Chunk X
chunk_kept n entries = record { entries = entries; number = Some n; changed = false }

module _ {X : Type 0} (Spelled : List X → List ℕ → Type 0) (m : SlotMap) where
  -- the system's slot of this number spells these entries
  abbrev pub HasSegment : ℕ → List X → Type 0
  HasSegment n entries = IsSomeAnd (m (system_slot n)) (Spelled entries)

  -- the chunk stands as it is in the system's slot of its number
  pub record IsKept (c : Chunk X) : Type 0 where
    pub number : ℕ
    pub is : c ≡ chunk_kept number c.entries
    pub spelled : HasSegment number c.entries

  -- the slots of these numbers spell the list, a part each
  pub record HasList (segments : List ℕ) (entries : List X) : Type 0 where
    pub chunks : List (Chunk X)
    pub numbered : numbers chunks ≡ segments
    pub kept : Each IsKept chunks
    pub whole : joined chunks ≡ entries

  -- ---- what is judged of a list

  module _ (cmp : X → X → Ordering) (suits : X → Bool) where
    -- The chunk stands in its slot, all its entries suit, and they stand above those before them.
    pub record IsNext (before : List X) (c : Chunk X) : Type 0 where
      pub kept : IsKept c
      pub suit : IsTrue (list_all suits c.entries)
      pub above : IsAscending cmp (before ++ c.entries)

    -- so each chunk, with these entries before the first
    abbrev pub AreNext : List X → List (Chunk X) → Type 0
    AreNext before [] = Unit {0}
    AreNext before (c ∷ cs) = IsNext before c × AreNext (before ++ c.entries) cs

    -- The list of these segments is sound: these are its chunks.
    pub record IsSoundList (segments : List ℕ) (chunks : List (Chunk X)) : Type 0 where
      pub numbered : numbers chunks ≡ segments
      pub sound : AreNext [] chunks

    -- Of the list of these segments this one is the first that isn't sound: its slot spells no entries that may stand behind those of the segments before.
    pub record IsDamagedAt (segments : List ℕ) (n : ℕ) : Type 0 where
      pub chunks : List (Chunk X)
      pub behind : List ℕ
      pub numbered : segments ≡ numbers chunks ++ n ∷ behind
      pub sound : AreNext [] chunks
      pub damaged : (entries : List X) → IsNext (joined chunks) (chunk_kept n entries) → ⊥

-- The list that the catalog names is the store's: that of all objects where its id is 0, and else that of the indexed field of this id.
pub record IsListOf (m : SlotMap) (s : Store) (list : ListEntry) : Type 0 where
  pub extents : list.id ≡ 0 → HasList SpellsExtents m list.segments (extents_of s)
  pub index : (f : FieldDef) → IsOneOf f (indexed_fields s.schema) → list.id ≡ f.id → HasList (SpellsIndex (base_of f.kind)) m list.segments (entries_of s f)
